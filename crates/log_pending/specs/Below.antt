-- A batch's pending lines found through the log alone: from each line's record to the line below it, by the record that it names.
use Rattle.std.specs.Prelude.{ℕ, zero, suc, ◌≤◌, ◌<◌, ◌≡◌, refl, Bool, true, false, List, [], ◌∷◌, ◌++◌, length}
use Rattle.std.proofs.Common.{sym, ap, ◌∙◌, subst, arith, length-append}
use Rattle.std.proofs.Math.ListN.{get_or-append}
use Rattle.std.proofs.Math.Seq.{get_or-append_seam}
use Rattle.def_layout.specs.Records.{Rec, Kind, begin, insert, delete, undo_insert, undo_delete, commit, abort_mark, end, split, link, unlink, merge, redistribute, raise, lower}
use Rattle.def_model.specs.Log.{no_record, record_at}
use Rattle.def_model.specs.Batches.{Line, next_undo}

-- What was pending in a batch, newest, after record q, its number p: an update itself, or what an undo says is left. After its begin there
-- is nothing.
unfoldable pub pending_by : Kind → ℕ → Rec → ℕ
pending_by begin p q = 0
pending_by insert p q = p
pending_by delete p q = p
pending_by undo_insert p q = q.previous
pending_by undo_delete p q = q.previous
pending_by commit p q = 0
pending_by abort_mark p q = 0
pending_by end p q = 0
pending_by split p q = 0
pending_by link p q = 0
pending_by unlink p q = 0
pending_by merge p q = 0
pending_by redistribute p q = 0
pending_by raise p q = 0
pending_by lower p q = 0

unfoldable pub pending_after : List Rec → ℕ → ℕ
pending_after log p = pending_by (record_at log p).kind p (record_at log p)

-- The pending line below an update's.
abbrev pub below : List Rec → Rec → ℕ
below log r = pending_after log r.previous

unfoldable pub adds_kind : Bool → Kind
adds_kind true = insert
adds_kind false = delete

-- The log has a line's record, and the batch's record before that one.
pub record Stands (log : List Rec) (l : Line) : Type 0 where
  pub from_one : 0 < l.number
  pub within : l.number ≤ length log
  pub kind : (record_at log l.number).kind ≡ adds_kind l.adds
  pub key : (record_at log l.number).key ≡ l.key
  pub value : (record_at log l.number).second ≡ l.value
  pub back : (record_at log l.number).previous < l.number

-- LINKED: each line's record leads to the next line; numbers fall.
unfoldable pub Linked : List Rec → List Line → Type 0
Linked log [] = Unit {0}
Linked log (l ∷ ls) = Stands log l × (below log (record_at log l.number) ≡ next_undo ls) × (next_undo ls < l.number) × Linked log ls

-- ---- more records behind

record_more : (log c : List Rec) (n : ℕ) → n ≤ length log → record_at (log ++ c) n ≡ record_at log n
unfolding record_at
record_more log c zero h = refl
record_more log c (suc n) h = get_or-append log c no_record n (omega arith)

pub record_next : (log : List Rec) (r : Rec) → record_at (log ++ r ∷ []) (suc (length log)) ≡ r
unfolding record_at
record_next log r = get_or-append_seam log r [] no_record

pub after_more : (log c : List Rec) (n : ℕ) → n ≤ length log → pending_after (log ++ c) n ≡ pending_after log n
unfolding pending_after
after_more log c n h = rw (record_more log c n h)

stands_more : (log c : List Rec) (l : Line) → Stands log l → Stands (log ++ c) l
stands_more log c l s =
    let e : record_at (log ++ c) l.number ≡ record_at log l.number = record_more log c l.number s.within in
    record {
      from_one = s.from_one;
      within = omega (arith, s.within, length-append log c);
      kind = ap (λ (q : Rec). q.kind) e ∙ s.kind;
      key = ap (λ (q : Rec). q.key) e ∙ s.key;
      value = ap (λ (q : Rec). q.second) e ∙ s.value;
      back = subst (λ (q : Rec). q.previous < l.number) (sym e) s.back;
    }

pub linked_more : (log c : List Rec) (ls : List Line) → Linked log ls → Linked (log ++ c) ls
unfolding Linked
linked_more log c [] h = tt
linked_more log c (l ∷ ls) h =
    let s = h.0 in
    let e : record_at (log ++ c) l.number ≡ record_at log l.number = record_more log c l.number s.within in
    let p : (record_at log l.number).previous ≤ length log = omega (arith, s.back, s.within) in (
      stands_more log c l s,
      ap (λ (q : Rec). below (log ++ c) q) e ∙ after_more log c (record_at log l.number).previous p ∙ h.1,
      h.2,
      linked_more log c ls h.3,
    )

-- The newest line is in the log, or there is none.
newest_within : (log : List Rec) (ls : List Line) → Linked log ls → next_undo ls ≤ length log
unfolding Linked next_undo
newest_within log [] h = omega arith
newest_within log (l ∷ ls) h = h.0.within

-- A line that is written goes on from what was pending after the record before it.
pub linked_write : (log : List Rec) (r : Rec) (adds : Bool) (ls : List Line) → r.kind ≡ adds_kind adds → r.previous ≤ length log
    → pending_after log r.previous ≡ next_undo ls → Linked log ls
    → Linked (log ++ r ∷ []) (record { number = suc (length log); adds = adds; key = r.key; value = r.second } ∷ ls)
unfolding Linked
linked_write log r adds ls k p e h =
    let q : record_at (log ++ r ∷ []) (suc (length log)) ≡ r = record_next log r in (
      record {
        from_one = omega arith;
        within = omega (arith, length-append log (r ∷ []));
        kind = ap (λ (x : Rec). x.kind) q ∙ k;
        key = ap (λ (x : Rec). x.key) q;
        value = ap (λ (x : Rec). x.second) q;
        back = subst (λ (x : Rec). x.previous < suc (length log)) (sym q) (omega arith);
      },
      ap (λ (x : Rec). below (log ++ r ∷ []) x) q ∙ after_more log (r ∷ []) r.previous p ∙ e,
      omega (arith, newest_within log ls h),
      linked_more log (r ∷ []) ls h,
    )
