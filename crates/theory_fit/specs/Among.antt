-- What refusal 5 looks for among a page's entries: the last ones, the order of two lists, and the places of a link and an unlink.
use Rattle.std.specs.Prelude.{ℕ, zero, suc, ◌-◌, ◌≤◌, ◌<◌, ◌≡◌, refl, true, ◌&&◌, List, [], ◌∷◌, ◌++◌, length, take, drop, ltb, leb, eqb}
use Rattle.std.proofs.Common.{sym, ap, ◌∙◌, append_assoc, arith, take-append-drop}
use Rattle.def_base.specs.Tests.{Case, yes!, no!, case, clash, lt_true, true_lt, lt_false, true_eq, eq_true, le_true, true_le, and_true}
use Rattle.def_layout.specs.declared.Entry.{Entry}
use Rattle.def_layout.specs.Entries.{entry, key_at, same_entries}
use Rattle.def_model.specs.Change.{kept}
use Rattle.def_model.specs.Fit.{after, last_key_is, in_order, link_fits, side_by_side}
use Rattle.theory_tree.specs.Order.Keys.{after_append}
use Rattle.theory_update.specs.Find.Halves.{uncons}
use Rattle.theory_fit.specs.Judging.{take_all, tail_cut}
use Rattle.theory_fit.specs.Exactly.{Exactly, said, same}

-- ---- the last entry

pub record Ending (es : List Entry) : Type 0 where
  pub front : List Entry
  pub last : Entry
  pub whole : es ≡ front ++ last ∷ []

ending : (e : Entry) (es : List Entry) → Ending (e ∷ es)
ending e [] = record { front = []; last = e; whole = refl }
ending e (f ∷ es) = let r = ending f es in record { front = e ∷ r.front; last = r.last; whole = ap (e ∷◌) r.whole }

ending_after : (es : List Entry) (r : Ending es) → after 0 es ≡ suc r.last.key
unfolding after
ending_after es r = ap (after 0) r.whole ∙ after_append 0 r.front (r.last ∷ [])

-- The last entry has key k.
pub record LastKey (k : ℕ) (es : List Entry) : Type 0 where
  pub end : Ending es
  pub key : end.last.key ≡ k

pub last_key : (k : ℕ) (es : List Entry) → Exactly (last_key_is k es) (LastKey k es)
unfolding after
last_key k [] = record { so = λ t. let e = true_eq 0 (suc k) t in absurd (omega arith); holds = λ r. eq_true 0 (suc k) (ending_after [] r.end ∙ ap suc r.key) }
last_key k (e ∷ es) =
    record {
      so = λ t. let r = ending e es in let a = ending_after (e ∷ es) r in let b = true_eq (after 0 (e ∷ es)) (suc k) t in record { end = r; key = omega arith };
      holds = λ r. eq_true (after 0 (e ∷ es)) (suc k) (ending_after (e ∷ es) r.end ∙ ap suc r.key);
    }

-- ---- the order of two lists

-- The first of the second list stands after the last of the first, where there are both.
abbrev pub Follows : List Entry → List Entry → Type 0
Follows xs es = (r : Ending xs) (f : Entry) (rest : List Entry) → es ≡ f ∷ rest → r.last.key < f.key

pub follows : (xs es : List Entry) → Exactly (in_order xs es) (Follows xs es)
unfolding in_order after
follows xs [] = record { so = λ t r f rest e. let l = ap length e in absurd (omega arith); holds = λ w. refl }
follows xs (g ∷ es) =
    record {
      so = λ t r f rest e. let a = true_le (after 0 xs) g.key t in let b = ending_after xs r in let c = ap (λ (z : Entry). z.key) (uncons e).0 in omega arith;
      holds = λ w. le_true (after 0 xs) g.key (bound xs w);
    }
  where
    bound : (xs : List Entry) → Follows xs (g ∷ es) → after 0 xs ≤ g.key
    bound [] w = omega arith
    bound (x ∷ xs) w = let r = ending x xs in let l = w r g es refl in let b = ending_after (x ∷ xs) r in omega arith

-- ---- the last and the first entries of a page

-- Some entries, then one with key k, then `moved`.
pub record EndsIn (k : ℕ) (moved es : List Entry) : Type 0 where
  pub front : List Entry
  pub last : Entry
  pub whole : es ≡ front ++ last ∷ moved
  pub key : last.key ≡ k

pub ends_join : {k : ℕ} {moved es : List Entry} → drop (length es - length moved) es ≡ moved → LastKey k (kept moved es) → EndsIn k moved es
ends_join {k} {moved} {es} d l =
    let n = length es - length moved in
    let w : es ≡ (l.end.front ++ l.end.last ∷ []) ++ moved = sym (take-append-drop n es) ∙ (λ i. l.end.whole i ++ d i) in
    record { front = l.end.front; last = l.end.last; whole = w ∙ append_assoc l.end.front (l.end.last ∷ []) moved; key = l.key }

pub ends_cut : {k : ℕ} {moved es : List Entry} → EndsIn k moved es → (drop (length es - length moved) es ≡ moved) × LastKey k (kept moved es)
ends_cut {k} {moved} {es} r =
    let (d, t) = tail_cut es (r.front ++ r.last ∷ []) moved (r.whole ∙ sym (append_assoc r.front (r.last ∷ []) moved)) in
    (d, record { end = record { front = r.front; last = r.last; whole = t }; key = r.key })

pub starts_in : (moved es : List Entry) → Exactly (same_entries (take (length moved) es) moved) ((rest : List Entry) × (es ≡ moved ++ rest))
starts_in moved es =
    said (λ t. (drop (length moved) es, sym (take-append-drop (length moved) es) ∙ ap (◌++ drop (length moved) es) t))
    (λ w. ap (take (length moved)) w.1 ∙ take_all moved w.0) (same (take (length moved) es) moved)

-- ---- what a link and an unlink look for

-- The search for k passes over these entries.
abbrev pub Passed : ℕ → List Entry → Type 0
Passed k es = (i : ℕ) → i < length es → key_at es i < k

passed_more : (k : ℕ) (e : Entry) (es : List Entry) → e.key < k → Passed k es → Passed k (e ∷ es)
passed_more k e es h p zero l = h
passed_more k e es h p (suc i) l = p i (omega arith)

-- The entry found for w is (w, b), and u lies strictly between the key before it and w.
pub record LinkPlace (b u w from : ℕ) (es : List Entry) : Type 0 where
  pub pre : List Entry
  pub post : List Entry
  pub whole : es ≡ pre ++ entry w b ∷ post
  pub passed : Passed w pre
  pub above : after from pre ≤ u
  pub under : u < w

link_so : (b u w from : ℕ) (es : List Entry) → link_fits b u w from es ≡ true → LinkPlace b u w from es
unfolding link_fits after
link_so b u w from [] t = clash (sym t)
link_so b u w from (e ∷ es) t = go (case (ltb e.key w)) t (link_so b u w (suc e.key) es)
  where
    go : Case (ltb e.key w) → link_fits b u w from (e ∷ es) ≡ true → (link_fits b u w (suc e.key) es ≡ true → LinkPlace b u w (suc e.key) es)
        → LinkPlace b u w from (e ∷ es)
    go (yes! l) t again =
        let t' : link_fits b u w (suc e.key) es ≡ true = rw l at t in
        let r = again t' in
        record { pre = e ∷ r.pre; post = r.post; whole = ap (e ∷◌) r.whole; passed = passed_more w e r.pre (true_lt e.key w l) r.passed; above = r.above; under = r.under }
    go (no! l) t again =
        let t' : eqb e.key w && (eqb e.val b && (leb from u && ltb u w)) ≡ true = rw l at t in
        let (k, t₁) = and_true (eqb e.key w) _ t' in
        let (v, t₂) = and_true (eqb e.val b) _ t₁ in
        let (a, c) = and_true (leb from u) (ltb u w) t₂ in
        let k' = true_eq e.key w k in
        let v' = true_eq e.val b v in
        record { pre = []; post = es; whole = λ i. entry (k' i) (v' i) ∷ es; passed = λ i h. absurd (omega arith); above = true_le from u a; under = true_lt u w c }

link_holds : (b u w from : ℕ) (pre post : List Entry) → Passed w pre → after from pre ≤ u → u < w → link_fits b u w from (pre ++ entry w b ∷ post) ≡ true
unfolding link_fits after
link_holds b u w from [] post p a h = rw (lt_false w w (omega arith), eq_true w w refl, eq_true b b refl, le_true from u a, lt_true u w h)
link_holds b u w from (x ∷ pre) post p a h =
    rw (lt_true x.key w (p 0 (omega arith))) (link_holds b u w (suc x.key) pre post (λ i l. p (suc i) (omega arith)) a h)

pub link_place : (b u w from : ℕ) (es : List Entry) → Exactly (link_fits b u w from es) (LinkPlace b u w from es)
link_place b u w from es =
    record {
      so = link_so b u w from es;
      holds = λ r. ap (link_fits b u w from) r.whole ∙ link_holds b u w from r.pre r.post r.passed r.above r.under;
    }

-- The entry found for u is (u, b), and the one after it (w, c).
pub record SidePlace (b u c w : ℕ) (es : List Entry) : Type 0 where
  pub pre : List Entry
  pub post : List Entry
  pub whole : es ≡ pre ++ entry u b ∷ entry w c ∷ post
  pub passed : Passed u pre

side_so : (b u c w : ℕ) (es : List Entry) → side_by_side b u c w es ≡ true → SidePlace b u c w es
unfolding side_by_side
side_so b u c w [] t = clash (sym t)
side_so b u c w (e ∷ []) t = clash (sym t)
side_so b u c w (e ∷ f ∷ es) t = go (case (ltb e.key u)) t (side_so b u c w (f ∷ es))
  where
    go : Case (ltb e.key u) → side_by_side b u c w (e ∷ f ∷ es) ≡ true → (side_by_side b u c w (f ∷ es) ≡ true → SidePlace b u c w (f ∷ es))
        → SidePlace b u c w (e ∷ f ∷ es)
    go (yes! l) t again =
        let t' : side_by_side b u c w (f ∷ es) ≡ true = rw l at t in
        let r = again t' in
        record { pre = e ∷ r.pre; post = r.post; whole = ap (e ∷◌) r.whole; passed = passed_more u e r.pre (true_lt e.key u l) r.passed }
    go (no! l) t again =
        let t' : eqb e.key u && (eqb e.val b && (eqb f.key w && eqb f.val c)) ≡ true = rw l at t in
        let (k, t₁) = and_true (eqb e.key u) _ t' in
        let (v, t₂) = and_true (eqb e.val b) _ t₁ in
        let (k₂, v₂) = and_true (eqb f.key w) (eqb f.val c) t₂ in
        let k' = true_eq e.key u k in
        let v' = true_eq e.val b v in
        let k₃ = true_eq f.key w k₂ in
        let v₃ = true_eq f.val c v₂ in
        record { pre = []; post = es; whole = λ i. entry (k' i) (v' i) ∷ entry (k₃ i) (v₃ i) ∷ es; passed = λ i h. absurd (omega arith) }

side_holds : (b u c w : ℕ) (pre post : List Entry) → Passed u pre → side_by_side b u c w (pre ++ entry u b ∷ entry w c ∷ post) ≡ true
unfolding side_by_side
side_holds b u c w [] post p = rw (lt_false u u (omega arith), eq_true u u refl, eq_true b b refl, eq_true w w refl, eq_true c c refl)
side_holds b u c w (x ∷ []) post p = rw (lt_true x.key u (p 0 (omega arith))) (side_holds b u c w [] post (λ i l. absurd (omega arith)))
side_holds b u c w (x ∷ y ∷ pre) post p = rw (lt_true x.key u (p 0 (omega arith))) (side_holds b u c w (y ∷ pre) post (λ i l. p (suc i) (omega arith)))

pub side_place : (b u c w : ℕ) (es : List Entry) → Exactly (side_by_side b u c w es) (SidePlace b u c w es)
side_place b u c w es =
    record { so = side_so b u c w es; holds = λ r. ap (side_by_side b u c w) r.whole ∙ side_holds b u c w r.pre r.post r.passed }
