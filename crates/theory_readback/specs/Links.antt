-- LEFT LINKS OF TEN BITS stay so along a run, and worked out at its end they are links that its pages may have (02, U5).
use Rattle.std.specs.Prelude.{ℕ, zero, suc, ◌≤◌, ◌≡◌, Bool, true, false, List, [], ◌∷◌, length, set}
use Rattle.std.proofs.Common.{lit<}
use Rattle.def_base.specs.Tests.{pick}
use Rattle.def_layout.specs.declared.Entry.{Entry}
use Rattle.def_layout.specs.Pages.{Page, map_bits}
use Rattle.def_layout.specs.Records.{Rec}
use Rattle.def_model.specs.TreeRules.{tree_ok}
use Rattle.def_model.specs.Links.{relinked}
use Rattle.def_model.specs.Redo.{places, is_lower, redo_page, redo_left, redo_lefts}
use Rattle.def_model.specs.Update.{Run}
use Rattle.law_areas.specs.Pages.{AllPagesFit}
use Rattle.law_areas.specs.Working.{paired, AllLinks, all_links}
use Rattle.theory_tree.specs.Shape.LeftLinks.{relinked_length}
use Rattle.theory_tree.specs.Test.Test.{test_sound}
use Rattle.theory_history.specs.Linking.{NarrowLinks, relinked_links}
use Rattle.theory_history.specs.Trail.{Trail, stay, more}

-- A record sets links to none, and no others.
narrow_set : (ls : List ℕ) (p : ℕ) → NarrowLinks ls → NarrowLinks (set ls p 0)
narrow_set [] p w q = w q
narrow_set (l ∷ ls) zero w zero = lit< tt
narrow_set (l ∷ ls) zero w (suc q) = w (suc q)
narrow_set (l ∷ ls) (suc p) w zero = w 0
narrow_set (l ∷ ls) (suc p) w (suc q) = narrow_set ls p (λ r. w (suc r)) q

narrow_page : (n p : ℕ) (pages : List Page) (ls : List ℕ) → NarrowLinks ls → NarrowLinks (redo_left n p pages ls)
unfolding redo_left
narrow_page n p pages ls w = go (is_lower n p pages)
  where
    go : (b : Bool) → NarrowLinks (pick b (set ls p 0) ls)
    go true = narrow_set ls p w
    go false = w

pub narrow_record : (n : ℕ) (r : Rec) (ps : List ℕ) (pages : List Page) (ls : List ℕ) → NarrowLinks ls → NarrowLinks (redo_lefts n r ps pages ls)
unfolding redo_lefts
narrow_record n r [] pages ls w = w
narrow_record n r (p ∷ ps) pages ls w = narrow_record n r ps (redo_page n r p pages) (redo_left n p pages ls) (narrow_page n p pages ls w)

pub narrow_trail : {s t : Run} {sl sl' : List Entry} → Trail s sl t sl' → NarrowLinks s.lefts → NarrowLinks t.lefts
narrow_trail stay w = w
narrow_trail (more {t = t} {r = r} q x) w = narrow_record t.due r (places r) t.pages t.lefts (narrow_trail q w)

-- WORKED OUT, on pages that keep the tree rules.
pub linked : (xs : List Page) (ls : List ℕ) → length xs ≤ map_bits → tree_ok xs ≡ true → AllPagesFit xs → NarrowLinks ls → AllLinks (paired xs (relinked xs ls))
linked xs ls few t f w = all_links xs (relinked xs ls) (relinked_length xs ls) (λ p h. relinked_links xs few (test_sound xs t) ls w p) f
