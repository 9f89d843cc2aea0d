-- What a log says, record by record: the open batches, their chain, and the slides of the committed batches.
use Rattle.std.specs.Prelude.{ℕ, suc, ◌+◌, ◌≡◌, refl, Bool, true, false, ◌&&◌, List, [], ◌∷◌, ◌++◌, length}
use Rattle.std.proofs.Common.{sym, ap, ◌∙◌, subst, arith, suc-add, add-suc, add-zero, zero-add}
use Rattle.std.proofs.Math.Option.{Option, none, some}
use Rattle.def_base.specs.Tests.{and_both}
use Rattle.def_layout.specs.declared.Entry.{Entry}
use Rattle.def_layout.specs.Records.{Rec, Kind, begin, insert, delete, undo_insert, undo_delete, commit, abort_mark, end, split, link, unlink, merge, redistribute, raise, lower}
use Rattle.def_model.specs.Batches.{Line, Batch, find_batch, change_batch, rest_of, written, undone, mark_set, tell, told, open_batches, chain_step, chain_ok}
use Rattle.theory_ledger.specs.Held.{Distinct}
use Rattle.theory_ledger.specs.Runs.{carry_lines}
use Rattle.theory_ledger.specs.Batching.{Falls, Within, falls_more, within_more, within_fresh, distinct_change, distinct_drop, distinct_end, within_change, within_drop, within_end}

-- The number due after a log.
pub number_due : (log : List Rec) → 1 + length log ≡ suc (length log)
number_due log = omega arith

-- ---- the open batches

pub told_append : (n : ℕ) (a c : List Rec) (bs : List Batch) → told n (a ++ c) bs ≡ told (n + length a) c (told n a bs)
unfolding told
told_append n [] c bs = simp add-zero
told_append n (r ∷ a) c bs = rw (told_append (suc n) a c (tell r.kind n r bs), suc-add n (length a), add-suc n (length a)) refl

pub open_more : (log : List Rec) (r : Rec) → open_batches (log ++ r ∷ []) ≡ tell r.kind (suc (length log)) r (open_batches log)
unfolding open_batches told
open_more log r = told_append 1 log (r ∷ []) [] ∙ ap (λ n. tell r.kind n r (told 1 log [])) (number_due log)

-- ---- the chain

chain_append : (n : ℕ) (a c : List Rec) (bs : List Batch) → chain_ok n (a ++ c) bs ≡ chain_ok n a bs && chain_ok (n + length a) c (told n a bs)
unfolding chain_ok told
chain_append n [] c bs = simp add-zero
chain_append n (r ∷ a) c bs = go (chain_step n r bs) (chain_append (suc n) a c (tell r.kind n r bs) ∙ ap (λ m. chain_ok (suc n) a (tell r.kind n r bs) && chain_ok m c (told (suc n) a (tell r.kind n r bs))) (suc-add n (length a) ∙ sym (add-suc n (length a))))
  where
    go : (b : Bool) → chain_ok (suc n) (a ++ c) (tell r.kind n r bs) ≡ chain_ok (suc n) a (tell r.kind n r bs) && chain_ok (n + suc (length a)) c (told (suc n) a (tell r.kind n r bs))
        → b && chain_ok (suc n) (a ++ c) (tell r.kind n r bs) ≡ (b && chain_ok (suc n) a (tell r.kind n r bs)) && chain_ok (n + suc (length a)) c (told (suc n) a (tell r.kind n r bs))
    go true i = i
    go false i = refl

pub chain_more : (log : List Rec) (r : Rec) → chain_ok 1 log [] ≡ true → chain_step (suc (length log)) r (open_batches log) ≡ true → chain_ok 1 (log ++ r ∷ []) [] ≡ true
unfolding open_batches chain_ok
chain_more log r h k =
    chain_append 1 log (r ∷ []) []
    ∙ ap (λ n. chain_ok 1 log [] && (chain_step n r (told 1 log []) && true)) (number_due log) ∙ and_both h (and_both k refl)

-- ---- numbers

pub record Numbered (m : ℕ) (bs : List Batch) : Type 0 where
  pub distinct : Distinct bs
  pub within : Within m bs

numbered_change : (m n : ℕ) (f : Batch → Batch) (bs : List Batch) → ((b : Batch) → (f b).number ≡ b.number) → ((b : Batch) → Falls (suc m) b.lines → Falls (suc (suc m)) (f b).lines)
    → Numbered m bs → Numbered (suc m) (change_batch n f bs)
numbered_change m n f bs k g h = record { distinct = distinct_change n f bs k h.distinct; within = within_change m n f bs k g h.within }

numbered_same : (m : ℕ) (bs : List Batch) → Numbered m bs → Numbered (suc m) bs
numbered_same m bs h = record { distinct = h.distinct; within = within_more m bs h.within }

fewer_fall : (n : ℕ) (ls : List Line) → Falls n ls → Falls (suc n) (rest_of ls)
unfolding Falls rest_of
fewer_fall n [] h = tt
fewer_fall n (l ∷ ls) h = let a = h.1 in falls_more l.number (suc n) ls (omega arith) h.2

pub numbered_tell : (k : Kind) (m : ℕ) (r : Rec) (bs : List Batch) → Numbered m bs → Numbered (suc m) (tell k (suc m) r bs)
unfolding tell written undone mark_set Falls
numbered_tell begin m r bs h =
    record {
      distinct = distinct_end bs _ (within_fresh m (suc m) bs (omega arith) h.within) h.distinct;
      within = within_end (suc m) bs _ (omega arith) tt (within_more m bs h.within);
    }
numbered_tell insert m r bs h = numbered_change m r.batch _ bs (λ b. refl) (λ b w. (omega arith, omega arith, w)) h
numbered_tell delete m r bs h = numbered_change m r.batch _ bs (λ b. refl) (λ b w. (omega arith, omega arith, w)) h
numbered_tell undo_insert m r bs h = numbered_change m r.batch _ bs (λ b. refl) (λ b w. fewer_fall (suc m) b.lines w) h
numbered_tell undo_delete m r bs h = numbered_change m r.batch _ bs (λ b. refl) (λ b w. fewer_fall (suc m) b.lines w) h
numbered_tell commit m r bs h = record { distinct = distinct_drop r.batch bs h.distinct; within = within_drop (suc m) r.batch bs (within_more m bs h.within) }
numbered_tell abort_mark m r bs h = numbered_change m r.batch _ bs (λ b. refl) (λ b w. falls_more (suc m) (suc (suc m)) b.lines (omega arith) w) h
numbered_tell end m r bs h = record { distinct = distinct_drop r.batch bs h.distinct; within = within_drop (suc m) r.batch bs (within_more m bs h.within) }
numbered_tell split m r bs h = numbered_same m bs h
numbered_tell link m r bs h = numbered_same m bs h
numbered_tell unlink m r bs h = numbered_same m bs h
numbered_tell merge m r bs h = numbered_same m bs h
numbered_tell redistribute m r bs h = numbered_same m bs h
numbered_tell raise m r bs h = numbered_same m bs h
numbered_tell lower m r bs h = numbered_same m bs h

numbered_told : (m : ℕ) (log : List Rec) (bs : List Batch) → Numbered m bs → Numbered (m + length log) (told (suc m) log bs)
unfolding told
numbered_told m [] bs h = subst (λ z. Numbered z bs) (sym (add-zero m)) h
numbered_told m (r ∷ log) bs h =
    subst (λ z. Numbered z (told (suc (suc m)) log (tell r.kind (suc m) r bs))) (suc-add m (length log) ∙ sym (add-suc m (length log)))
    (numbered_told (suc m) log (tell r.kind (suc m) r bs) (numbered_tell r.kind m r bs h))

-- The open batches of a log have distinct numbers, none above the log's last.
pub numbered_open : (log : List Rec) → Numbered (length log) (open_batches log)
unfolding open_batches Distinct Within
numbered_open log = subst (λ m. Numbered m (told 1 log [])) (zero-add (length log)) (numbered_told 0 log [] (record { distinct = tt; within = tt }))

-- ---- the slides of the committed batches

unfoldable pub lines_of : Option Batch → List Line
lines_of none = []
lines_of (some b) = b.lines

-- Only a commit changes them: it carries out its batch's lines.
unfoldable pub slides_by : Kind → Rec → List Batch → List Entry → List Entry
slides_by begin r bs es = es
slides_by insert r bs es = es
slides_by delete r bs es = es
slides_by undo_insert r bs es = es
slides_by undo_delete r bs es = es
slides_by commit r bs es = carry_lines (lines_of (find_batch r.batch bs)) es
slides_by abort_mark r bs es = es
slides_by end r bs es = es
slides_by split r bs es = es
slides_by link r bs es = es
slides_by unlink r bs es = es
slides_by merge r bs es = es
slides_by redistribute r bs es = es
slides_by raise r bs es = es
slides_by lower r bs es = es

unfoldable pub slides_from : ℕ → List Rec → List Batch → List Entry → List Entry
slides_from n [] bs es = es
slides_from n (r ∷ l) bs es = slides_from (suc n) l (tell r.kind n r bs) (slides_by r.kind r bs es)

-- From the slides before the log.
unfoldable pub slides_of : List Entry → List Rec → List Entry
slides_of es log = slides_from 1 log [] es

slides_append : (n : ℕ) (a c : List Rec) (bs : List Batch) (es : List Entry) → slides_from n (a ++ c) bs es ≡ slides_from (n + length a) c (told n a bs) (slides_from n a bs es)
unfolding slides_from told
slides_append n [] c bs es = simp add-zero
slides_append n (r ∷ a) c bs es = rw (slides_append (suc n) a c (tell r.kind n r bs) (slides_by r.kind r bs es), suc-add n (length a), add-suc n (length a)) refl

pub slides_more : (es : List Entry) (log : List Rec) (r : Rec) → slides_of es (log ++ r ∷ []) ≡ slides_by r.kind r (open_batches log) (slides_of es log)
unfolding slides_of slides_from open_batches
slides_more es log r = slides_append 1 log (r ∷ []) [] es ∙ refl
