-- EVERY POINT OF A TRAIL: after each first part of what it wrote there is a run, sound with the same slides, which redo of that part leads to.
use Rattle.std.specs.Prelude.{ℕ, suc, ◌+◌, ◌≤◌, ◌≡◌, ◌⊎◌, true}
use Rattle.std.proofs.Math.Path.{refl, sym, ap, subst}
use Rattle.std.proofs.Common.{◌∙◌, inl, inr}
use mathlib.Core.List.{List, [], ◌∷◌, ◌++◌, append_assoc, append-nil}
use native.Mathlib.Omega.{arith}
use Rattle.std.proofs.Math.ListN.{length, length-append}
use Rattle.def_layout.specs.declared.Entry.{Entry}
use Rattle.def_layout.specs.Pages.{map_bits}
use Rattle.def_layout.specs.Records.{Rec}
use Rattle.def_model.specs.Redo.{redo_record, replay, redo_fits}
use Rattle.def_model.specs.TreeRules.{levels_of}
use Rattle.def_model.specs.Update.{Run}
use Rattle.theory_redo.specs.Area.{replay_append}
use Rattle.theory_tree.specs.Test.Test.{test_sound}
use Rattle.theory_tree.specs.Step.Steps.{Step}
use Rattle.theory_update.specs.Run.Way.{written_by}
use Rattle.theory_update.specs.Run.Lawful.{Lawful, here, next, lawful_append}
use Rattle.theory_fit.specs.Clean.{Clean}
use Rattle.theory_fit.specs.NeverFive.{never_five_from}
use Rattle.theory_history.specs.Core.{Core, NextRecord, core_more}
use Rattle.theory_history.specs.Trail.{Trail, stay, more}
use Rattle.theory_history.specs.TreeTrail.{append_cancel, levels_after}
use Rattle.theory_history.specs.History.{first_parts}

pub record Point (n : ℕ) (s : Run) (sl : List Entry) (part : List Rec) : Type 0 where
  pub run : Run
  pub core : Core n run sl
  pub log : run.log ≡ s.log ++ part
  pub pages : run.pages ≡ replay s.due part s.pages
  pub lawful : Lawful s.due s.pages (levels_of s.pages) part (levels_of run.pages)

pub trail_slides : {s t : Run} {sl sl₁ : List Entry} → Trail s sl t sl₁ → sl ≡ sl₁
trail_slides stay = refl
trail_slides (more p x) = trail_slides p

none_follows : (l a b : List Rec) → l ≡ l ++ (a ++ b) → a ≡ []
none_follows l [] b e = refl
none_follows l (x ∷ a) b e = let f : length l ≡ length (l ++ x ∷ (a ++ b)) = ap length e in let g = length-append l (x ∷ (a ++ b)) in absurd (omega arith)

module _ (n : ℕ) (most : n ≤ map_bits) where
  here_point : (s : Run) (sl : List Entry) → Core n s sl → Point n s sl []
  unfolding replay
  here_point s sl c = record { run = s; core = c; log = sym (append-nil s.log); pages = refl; lawful = here }

  -- One record on.
  next_point : (s : Run) (sl : List Entry) (part : List Rec) (r : Rec) (c : Core n s sl) (p : Point n s sl part) → NextRecord p.run sl r sl → Point n s sl (part ++ r ∷ [])
  unfolding replay
  next_point s sl part r c p x =
      let u = p.run in
      let d : u.due ≡ s.due + length part = let a = p.core.due in let b = c.due in let l : length u.log ≡ length (s.log ++ part) = ap length p.log in let g = length-append s.log part in omega arith in
      let lv = levels_after n most u sl r x.after p.core x.step in
      let st : Step (replay s.due part s.pages) (levels_of u.pages) r (levels_of (redo_record u.due r u.pages)) =
      subst (λ z. Step z (levels_of u.pages) r (levels_of (redo_record u.due r u.pages))) p.pages (subst (λ z. Step u.pages (levels_of u.pages) r z) lv x.step) in
      record {
        run = written_by r u;
        core = core_more n most u sl sl r p.core x;
        log = ap (◌++ r ∷ []) p.log ∙ append_assoc s.log part (r ∷ []);
        pages = (λ i. redo_record (d i) r (p.pages i)) ∙ sym (replay_append s.due part (r ∷ []) s.pages);
        lawful = lawful_append p.lawful (next st here);
      }

  -- The end of a trail.
  pub record End (s : Run) (sl : List Entry) (t : Run) : Type 0 where
    pub part : List Rec
    pub last : Point n s sl part
    pub same : last.run ≡ t

  pub trail_end : {s t : Run} {sl sl₁ : List Entry} → Core n s sl → Trail s sl t sl₁ → End s sl t
  unfolding here_point next_point
  trail_end {s} {sl = sl} c stay = record { part = []; last = here_point s sl c; same = refl }
  trail_end {s} {sl = sl} c (more {t = t} {sl₁ = sl₁} {r = r} p x) =
      let e = trail_end c p in
      record {
        part = e.part ++ r ∷ [];
        last = next_point s sl e.part r c e.last (subst (λ z. NextRecord e.last.run z r z) (sym (trail_slides p)) (subst (λ z. NextRecord z sl₁ r sl₁) (sym e.same) x));
        same = ap (written_by r) e.same;
      }

  pub point : {s t : Run} {sl sl₁ : List Entry} → Core n s sl → Trail s sl t sl₁ → (a b : List Rec) → t.log ≡ s.log ++ (a ++ b) → Point n s sl a
  point {s} {sl = sl} c stay a b e = subst (Point n s sl) (sym (none_follows s.log a b e)) (here_point s sl c)
  point {s} {sl = sl} c (more {t = t} {sl₁ = sl₁} {r = r} p x) a b e =
      let q = trail_end c p in
      let l : t.log ≡ s.log ++ q.part = ap (λ z. z.log) (sym q.same) ∙ q.last.log in
      let f : q.part ++ r ∷ [] ≡ a ++ b = append_cancel s.log (q.part ++ r ∷ []) (a ++ b) (sym (append_assoc s.log q.part (r ∷ [])) ∙ ap (◌++ r ∷ []) (sym l) ∙ e) in
      go q l (first_parts q.part r a b f) (λ d g. point c p a d g)
    where
      go : (q : End s sl t) → t.log ≡ s.log ++ q.part → (a ≡ q.part ++ r ∷ []) ⊎ ((d : List Rec) × (q.part ≡ a ++ d)) → ((d : List Rec) → t.log ≡ s.log ++ (a ++ d) → Point n s sl a) → Point n s sl a
      go q l (inl f) i = subst (Point n s sl) (sym f) (next_point s sl q.part r c q.last (subst (λ z. NextRecord q.last.run z r z) (sym (trail_slides p)) (subst (λ z. NextRecord z sl₁ r sl₁) (sym q.same) x)))
      go q l (inr (d, f)) i = i d (l ∙ ap (s.log ++◌) f)

  -- A point's records fit the pages that they are redone on.
  pub point_fits : (s : Run) (sl : List Entry) (part : List Rec) (m : ℕ) → s.due ≡ suc m → Core n s sl → Clean s.pages → Point n s sl part → redo_fits s.due part s.pages ≡ true
  point_fits s sl part m e c clean p =
      let z = c.size in
      subst (λ k. redo_fits k part s.pages ≡ true) (sym e)
      (never_five_from m s.pages (levels_of s.pages) (levels_of p.run.pages) part (subst (λ k. Lawful k s.pages (levels_of s.pages) part (levels_of p.run.pages)) e p.lawful) (test_sound s.pages c.tree) (λ q h. let y = c.lows q h in omega arith) clean (omega arith))
