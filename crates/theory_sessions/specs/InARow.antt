-- Lists of events that are allowed, one after the other.
use Rattle.std.specs.Prelude.{ℕ, ◌≡◌, refl, List, [], ◌∷◌, ◌++◌}
use Rattle.std.proofs.Common.{sym, ap, ◌∙◌, subst}
use Rattle.def_recovery.specs.Events.{World, Event, grown, Allowed, AllAllowed, happen, happen_all, grow}

-- These events are allowed in this world, and lead to that one.
pub record Leads (es : List Event) (w v : World) : Type 0 where
  pub allowed : AllAllowed es w
  pub ends : happen_all es w ≡ v

happen_append : (es fs : List Event) (w : World) → happen_all (es ++ fs) w ≡ happen_all fs (happen_all es w)
unfolding happen_all
happen_append [] fs w = refl
happen_append (e ∷ es) fs w = happen_append es fs (happen e w)

allowed_append : (es fs : List Event) (w : World) → AllAllowed es w → AllAllowed fs (happen_all es w) → AllAllowed (es ++ fs) w
unfolding happen_all AllAllowed
allowed_append [] fs w p q = q
allowed_append (e ∷ es) fs w p q = (p.0, allowed_append es fs (happen e w) p.1 q)

pub in_a_row : (es fs : List Event) (w v u : World) → Leads es w v → Leads fs v u → Leads (es ++ fs) w u
in_a_row es fs w v u a b =
    record {
      allowed = allowed_append es fs w a.allowed (subst (AllAllowed fs) (sym a.ends) b.allowed);
      ends = happen_append es fs w ∙ ap (happen_all fs) a.ends ∙ b.ends;
    }

pub grows : (a b c d : ℕ) (w : World) → Leads (grown a b c d ∷ []) w (grow a b c d w)
unfolding AllAllowed Allowed happen_all happen
grows a b c d w = record { allowed = (tt, tt); ends = refl }
