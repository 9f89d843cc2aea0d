-- AN ADDITION AND A REMOVAL, WHOLE: from the rules to the rules, within their bounds.
use Rattle.std.specs.Prelude.{ℕ, ◌+◌, ◌*◌, ◌≤◌, ◌≡◌, List, [], ◌∷◌, length}
use Rattle.std.proofs.Common.{sym, ap, ◌∙◌, subst, inl, inr, arith}
use Rattle.std.proofs.Math.Option.{none, some}
use Rattle.def_layout.specs.declared.Entry.{Entry}
use Rattle.def_layout.specs.Entries.{top, look, insert_sorted, remove_key}
use Rattle.def_layout.specs.Pages.{at}
use Rattle.def_layout.specs.Records.{Kind, data_row}
use Rattle.def_model.specs.TreeRules.{Node, leaves, counted}
use Rattle.def_model.specs.Update.{Run, At, make_room, raise_root, descend_add, find_add, put_record, descend_remove, remove_record}
use Rattle.theory_tree.specs.Shape.Rules.{Rules}
use Rattle.theory_tree.specs.Shape.Height.{height}
use Rattle.theory_tree.specs.Step.Steps.{Adding, Removing}
use Rattle.theory_update.specs.Run.Keeps.{Stuck, Halt, halt_by, halt_stop, keep_room, keep_descend_add, keep_descend_remove}
use Rattle.theory_update.specs.Run.Way.{Live, Way, Result, loosen, bind}
use Rattle.theory_update.specs.Add.Descent.{Stand, descend_went}
use Rattle.theory_update.specs.Remove.Restocking.{Rich}
use Rattle.theory_update.specs.Remove.Descent.{removal_went}
use Rattle.theory_update.specs.Add.Raising.{Top, raise_went, top_rich}
use Rattle.theory_update.specs.Add.LeafRoom.{LeafAt, leaf_room}
use Rattle.theory_update.specs.Ending.{Ended, ended, short, Last, finish, put_last, cut_last}

-- AN ADDITION: at most 13 records and 7 pages; the rules hold after every record; the leaves have one record more.
pub put_went : (kind : Kind) (batch previous k v : ℕ) (s : Run) (ls : List (List Node)) → Live s ls → k ≤ top → Adding kind
    → look k (leaves ls) ≡ none
    → Ended s ls 13 7 (put_record kind batch previous k v s) (insert_sorted k v (leaves ls))
unfolding put_record find_add
put_went kind batch previous k v s ls w kt ad ab =
    finish s ls 12 7 a.run (LeafAt k a.page) (data_row kind batch previous a.page k v) (insert_sorted k v (leaves ls))
    (bind s ls 1 1 t Top 11 6 a.run (LeafAt k a.page) (raise_went s ls w) (λ h. keep_room Halt halt_by halt_stop k d.page d.run (keep_descend_add Halt halt_by halt_stop _ k 1 t h)) then)
    (λ ls₁ v₁ e x. subst (λ z. Last a.run ls₁ (data_row kind batch previous a.page k v) (insert_sorted k v z)) e (put_last kind batch previous k v a.page a.run ls₁ ad v₁ x (ap (look k) e ∙ ab)))
  where
    t : Run
    t = raise_root s

    d : At
    d = descend_add (at t.pages 1).level k 1 t

    a : At
    a = make_room k d.page d.run

    deep : (l : ℕ) (ls₁ : List (List Node)) → Live t ls₁ → Stand k l 1 ls₁ → l ≤ 5
        → Result t ls₁ 11 6 (make_room k (descend_add l k 1 t).page (descend_add l k 1 t).run).run
        (LeafAt k (make_room k (descend_add l k 1 t).page (descend_add l k 1 t).run).page)
    deep l ls₁ v₁ st h =
        let b = descend_add l k 1 t in
        let c = make_room k b.page b.run in
        loosen t ls₁ (2 * l + 1) (l + 1) 11 6 c.run (LeafAt k c.page) (omega arith) (omega arith)
        (bind t ls₁ (2 * l) l b.run (Stand k 0 b.page) 1 1 c.run (LeafAt k c.page) (descend_went l k 1 t ls₁ v₁ st) (keep_room Halt halt_by halt_stop k b.page b.run)
        (λ ls₂ v₂ x. leaf_room k b.page b.run ls₂ v₂ x))

    then : (ls₁ : List (List Node)) → Live t ls₁ → Top ls₁ → Result t ls₁ 11 6 a.run (LeafAt k a.page)
    then ls₁ v₁ x =
        let (rc, e) = top_rich k t ls₁ kt v₁ x in
        let h = height t.pages (x.node ∷ []) x.downs (subst (Rules t.pages) x.whole v₁.rules) v₁.few in
        subst (λ l. Result t ls₁ 11 6 (make_room k (descend_add l k 1 t).page (descend_add l k 1 t).run).run (LeafAt k (make_room k (descend_add l k 1 t).page (descend_add l k 1 t).run).page)) (sym e)
        (deep (length x.downs) ls₁ v₁ rc.stand h)

-- A REMOVAL: at most 32 records and 6 pages.
pub remove_went : (kind : Kind) (batch previous k v u : ℕ) (s : Run) (ls : List (List Node)) → Live s ls → k ≤ top → Removing kind v u
    → look k (leaves ls) ≡ some u
    → Ended s ls 32 6 (remove_record kind batch previous k v s) (remove_key k (leaves ls))
unfolding remove_record
remove_went kind batch previous k v u s ls w kt rm there =
    finish s ls 31 6 d.run (Rich k 0 d.page) (data_row kind batch previous d.page k v) (remove_key k (leaves ls))
    (bind s ls 1 1 t Top 30 5 d.run (Rich k 0 d.page) (raise_went s ls w) (keep_descend_remove Halt halt_by halt_stop _ k 1 t) then)
    (λ ls₁ v₁ e x. subst (λ z. Last d.run ls₁ (data_row kind batch previous d.page k v) (remove_key k z)) e (cut_last kind batch previous k v u d.page d.run ls₁ rm v₁ x (ap (look k) e ∙ there)))
  where
    t : Run
    t = raise_root s

    d : At
    d = descend_remove (at t.pages 1).level k 1 t

    then : (ls₁ : List (List Node)) → Live t ls₁ → Top ls₁ → Result t ls₁ 30 5 d.run (Rich k 0 d.page)
    then ls₁ v₁ x =
        let (rc, e) = top_rich k t ls₁ kt v₁ x in
        let h = height t.pages (x.node ∷ []) x.downs (subst (Rules t.pages) x.whole v₁.rules) v₁.few in
        subst (λ l. Result t ls₁ 30 5 (descend_remove l k 1 t).run (Rich k 0 (descend_remove l k 1 t).page)) (sym e)
        (loosen t ls₁ (6 * length x.downs) (length x.downs) 30 5 _ _ (omega arith) (omega arith) (removal_went (length x.downs) k 1 t ls₁ v₁ rc))

-- How an update that did not stop ended: within a records and b pages, with the leaves L.
pub record Finished (s : Run) (ls : List (List Node)) (a b : ℕ) (t : Run) (L : List Entry) : Type 0 where
  pub after : List (List Node)
  pub way : Way s ls t after
  pub live : Live t after
  pub holds : leaves after ≡ L
  pub records : s.room ≤ t.room + a
  pub taken : counted after ≤ counted ls + b
  pub room : t.due + t.room ≡ s.due + s.room
  pub size : length t.pages ≡ length s.pages

-- WITH ENOUGH ROOM AND PAGES AN UPDATE DOES NOT STOP.
pub enough : (s : Run) (ls : List (List Node)) (a b : ℕ) (t : Run) (L : List Entry) → Ended s ls a b t L → a ≤ s.room
    → counted ls + b ≤ length s.pages
    → Finished s ls a b t L
enough s ls a b t L (ended ls' w v e x y n z) h₁ h₂ = record { after = ls'; way = w; live = v; holds = e; records = x; taken = y; room = n; size = z }
enough s ls a b t L (short h (inl x)) h₁ h₂ = absurd (omega arith)
enough s ls a b t L (short h (inr x)) h₁ h₂ = absurd (omega arith)

-- Whatever the room: where it did not stop, it finished.
pub unstopped : (s : Run) (ls : List (List Node)) (a b : ℕ) (t : Run) (L : List Entry) → Ended s ls a b t L → t.stop ≡ 0 → Finished s ls a b t L
unstopped s ls a b t L (ended ls' w v e x y n z) h = record { after = ls'; way = w; live = v; holds = e; records = x; taken = y; room = n; size = z }
unstopped s ls a b t L (short n x) h = absurd (n.stuck h)

-- Where it stopped, it halted.
pub stopped_short : (s : Run) (ls : List (List Node)) (a b : ℕ) (t : Run) (L : List Entry) → Ended s ls a b t L → Stuck t → Halt t
stopped_short s ls a b t L (ended ls' w v e x y n z) h = absurd (h v.goes)
stopped_short s ls a b t L (short n x) h = n
