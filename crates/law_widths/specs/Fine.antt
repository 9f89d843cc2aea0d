-- Entries whose keys and values are 32-bit numbers, through every change of a page's entries.
use Rattle.std.specs.Prelude.{ℕ, ◌-◌, ◌<◌, ◌^◌, ◌≡◌, Bool, true, false, List, [], ◌∷◌, length, ltb, eqb}
use Rattle.std.proofs.Common.{subst, lit<}
use Rattle.std.proofs.Math.Option.{some}
use Rattle.def_base.specs.Tests.{pick, Case, yes!, no!, case, none_some, some_inj}
use Rattle.def_layout.specs.declared.Entry.{Entry}
use Rattle.def_layout.specs.Entries.{entry, entry_at, no_entry, look, insert_sorted, remove_key}
use Rattle.def_layout.specs.Records.{Rec}
use Rattle.def_model.specs.Change.{link_in, unlink_in, share_in_a, share_in_b}
use Rattle.law_bytes.specs.EntryBytes.{EntryFits}
use Rattle.law_widths.specs.Each.{Each, each_append, each_take, each_drop, each_at, at_each}

abbrev pub Fine : List Entry → Type 0
Fine es = Each EntryFits es

pub fine_at : (es : List Entry) → Fine es → (i : ℕ) → EntryFits (entry_at es i)
fine_at es h = each_at EntryFits no_entry es (lit< tt, lit< tt) h

pub at_fine : (es : List Entry) → ((i : ℕ) → EntryFits (entry_at es i)) → Fine es
at_fine es h = at_each EntryFits no_entry es h

pub fine_insert : (k v : ℕ) (es : List Entry) → k < 2 ^ 32 → v < 2 ^ 32 → Fine es → Fine (insert_sorted k v es)
unfolding Each insert_sorted
fine_insert k v [] a b h = ((a, b), tt)
fine_insert k v (e ∷ es) a b h = go (ltb e.key k) (fine_insert k v es a b h.1)
  where
    go : (t : Bool) → Fine (insert_sorted k v es) → Fine (pick t (e ∷ insert_sorted k v es) (entry k v ∷ e ∷ es))
    go true i = (h.0, i)
    go false i = ((a, b), h)

pub fine_remove : (k : ℕ) (es : List Entry) → Fine es → Fine (remove_key k es)
unfolding Each remove_key
fine_remove k [] h = tt
fine_remove k (e ∷ es) h = go (ltb e.key k) (eqb k e.key) (fine_remove k es h.1)
  where
    go : (t u : Bool) → Fine (remove_key k es) → Fine (pick t (e ∷ remove_key k es) (pick u es (e ∷ es)))
    go true u i = (h.0, i)
    go false true i = h.1
    go false false i = h

pub fine_link : (b u c w : ℕ) (es : List Entry) → EntryFits (entry u b) → EntryFits (entry w c) → Fine es → Fine (link_in b u c w es)
unfolding Each link_in
fine_link b u c w [] x y h = tt
fine_link b u c w (e ∷ es) x y h = go (ltb e.key w) (fine_link b u c w es x y h.1)
  where
    go : (t : Bool) → Fine (link_in b u c w es) → Fine (pick t (e ∷ link_in b u c w es) (entry u b ∷ entry w c ∷ es))
    go true i = (h.0, i)
    go false i = (x, (y, h.1))

pub fine_unlink : (b u w : ℕ) (es : List Entry) → EntryFits (entry w b) → Fine es → Fine (unlink_in b u w es)
unfolding Each unlink_in
fine_unlink b u w [] x h = tt
fine_unlink b u w (e ∷ []) x h = h
fine_unlink b u w (e ∷ f ∷ es) x h = go (ltb e.key u) (fine_unlink b u w (f ∷ es) x h.1)
  where
    go : (t : Bool) → Fine (unlink_in b u w (f ∷ es)) → Fine (pick t (e ∷ unlink_in b u w (f ∷ es)) (entry w b ∷ es))
    go true i = (h.0, i)
    go false i = (x, h.1.1)

pub fine_share_a : (t : Bool) (r : Rec) (es : List Entry) → Fine r.entries → Fine es → Fine (share_in_a t r es)
unfolding share_in_a
fine_share_a true r es k h = each_append EntryFits es r.entries h k
fine_share_a false r es k h = each_take EntryFits (length es - length r.entries) es h

pub fine_share_b : (t : Bool) (r : Rec) (es : List Entry) → Fine r.entries → Fine es → Fine (share_in_b t r es)
unfolding share_in_b
fine_share_b true r es k h = each_drop EntryFits (length r.entries) es h
fine_share_b false r es k h = each_append EntryFits r.entries es k h

-- The value that is found stands in an entry.
pub fine_look : (k u : ℕ) (es : List Entry) → look k es ≡ some u → Fine es → u < 2 ^ 32
unfolding Each look
fine_look k u [] e h = none_some e
fine_look k u (x ∷ es) e h = go (case (ltb x.key k)) (case (eqb k x.key)) (λ w. fine_look k u es w h.1)
  where
    go : Case (ltb x.key k) → Case (eqb k x.key) → (look k es ≡ some u → u < 2 ^ 32) → u < 2 ^ 32
    go (yes! a) b i = i (rw a at e)
    go (no! a) (yes! b) i = subst (λ z. z < 2 ^ 32) (some_inj (rw (a, b) at e)) h.0.1
    go (no! a) (no! b) i = none_some (rw (a, b) at e)
