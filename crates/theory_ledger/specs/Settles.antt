-- The slides, the tree's records and the open batches together: what every record of a batch does to them.
use Rattle.std.specs.Prelude.{ℕ, ◌≡◌, refl, ◌≢◌, Bool, true, false, List, [], ◌∷◌, ◌++◌}
use Rattle.std.proofs.Common.{sym, ap, ◌∙◌, subst, arith}
use Rattle.std.proofs.Math.Option.{Option, some}
use Rattle.std.proofs.Math.Decide.{ℕ_discrete}
use Rattle.def_layout.specs.declared.Entry.{Entry}
use Rattle.def_layout.specs.Entries.{look, insert_sorted, remove_key}
use Rattle.def_model.specs.Batches.{Line, Batch, find_batch, change_batch, drop_batch, written, undone, mark_set, rest_of}
use Rattle.def_model.specs.Pending.{held}
use Rattle.theory_tree.specs.Order.Keys.{Rising}
use Rattle.theory_tree.specs.Order.Sorted.{look_ext, look_insert, look_insert_other, look_remove, look_remove_other, rising_insert, rising_remove}
use Rattle.theory_ledger.specs.Runs.{DoesBy, Does, other, this, Off, carry_lines, carry_runs, apply_line, apply_rising, apply_look, apply_other}
use Rattle.theory_ledger.specs.Held.{Held, nobody, Distinct, OthersOff, held_others, held_change, held_more, held_back, held_fewer, held_drop, held_begin}

-- THE PENDING RULE, and what it says of the tree's records: on each key they are what the slides have, with the one batch's lines that
-- holds the key carried out.
pub record Settles (slides leaves : List Entry) (bs : List Batch) : Type 0 where
  pub slides_rise : Rising 0 slides
  pub leaves_rise : Rising 0 leaves
  pub at_key : (k : ℕ) → Held k (look k slides) bs (look k leaves)

-- With no batch open the tree's records are the slides.
pub settled : (slides leaves : List Entry) → Settles slides leaves [] → leaves ≡ slides
settled slides leaves s = look_ext 0 leaves slides s.leaves_rise s.slides_rise (λ k. sym (at (s.at_key k)))
  where
    at : {k : ℕ} {o c : Option ℕ} → Held k o [] c → o ≡ c
    at nobody = refl

pub settles_none : (slides : List Entry) → Rising 0 slides → Settles slides slides []
settles_none slides h = record { slides_rise = h; leaves_rise = h; at_key = λ k. nobody }

-- ---- insert and delete

-- Batch number n writes line l, which the tree's records allow and nobody else's lines forbid.
pub settles_write : (n m : ℕ) (l : Line) (c : Option ℕ) (slides leaves : List Entry) (bs : List Batch) (b : Batch) → Distinct bs → find_batch n bs ≡ some b → held n l.key bs ≡ false
    → Does l (look l.key leaves) c → Settles slides leaves bs → Settles slides (apply_line l leaves) (change_batch n (written m l) bs)
unfolding written Off
settles_write n m l c slides leaves bs b d e h does s =
    record {
      slides_rise = s.slides_rise;
      leaves_rise = apply_rising l.adds l.key l.value leaves c s.leaves_rise does;
      at_key = λ k. at k (ℕ_discrete k l.key);
    }
  where
    at : (k : ℕ) → Dec (k ≡ l.key) → Held k (look k slides) (change_batch n (written m l) bs) (look k (apply_line l leaves))
    at k (no z) =
        subst (λ y. Held k (look k slides) (change_batch n (written m l) bs) y) (sym (apply_other l.adds k l.key l.value leaves s.leaves_rise z))
        (held_change n k (written m l) (λ b q. (z, q)) (λ b o c r. other z r) (s.at_key k))
    at k (yes z) =
        let y : look k (apply_line l leaves) ≡ c = ap (λ j. look j (apply_line l leaves)) z ∙ apply_look l.adds l.key l.value leaves c s.leaves_rise does in
        subst (λ w. Held k (look k slides) (change_batch n (written m l) bs) w) (sym y)
        (held_more n k (written m l) c bs b d (subst (λ j. OthersOff n j bs) (sym z) (held_others n l.key bs h)) e
        (λ o r. this {m = look k leaves} z r (subst (λ j. Does l (look j leaves) c) (sym z) does)) (s.at_key k))

-- ---- undo

-- What undoing a line does to the tree's records.
unfoldable pub undo_apply_by : Bool → ℕ → ℕ → List Entry → List Entry
undo_apply_by true k v es = remove_key k es
undo_apply_by false k v es = insert_sorted k v es

abbrev pub undo_apply : Line → List Entry → List Entry
undo_apply l es = undo_apply_by l.adds l.key l.value es

pub undo_rising : (b : Bool) (k v : ℕ) (es : List Entry) (m : Option ℕ) → Rising 0 es → DoesBy b v m (look k es) → Rising 0 (undo_apply_by b k v es)
unfolding undo_apply_by DoesBy
undo_rising true k v es m r d = rising_remove k 0 es r
undo_rising false k v es m r d = rising_insert k v 0 es (omega arith) r d.1

pub undo_look : (b : Bool) (k v : ℕ) (es : List Entry) (m : Option ℕ) → Rising 0 es → DoesBy b v m (look k es) → look k (undo_apply_by b k v es) ≡ m
unfolding undo_apply_by DoesBy
undo_look true k v es m r d = look_remove k 0 es r ∙ sym d.0
undo_look false k v es m r d = look_insert k v es ∙ sym d.0

pub undo_other : (b : Bool) (k j v : ℕ) (es : List Entry) → Rising 0 es → k ≢ j → look k (undo_apply_by b j v es) ≡ look k es
unfolding undo_apply_by
undo_other true k j v es r n = look_remove_other k j 0 es r n
undo_other false k j v es r n = look_insert_other k j v es n

-- The tree has what the newest line left.
pub newest_does : (n : ℕ) (l : Line) (ls : List Line) (slides leaves : List Entry) (bs : List Batch) (b : Batch) → find_batch n bs ≡ some b → b.lines ≡ l ∷ ls → Settles slides leaves bs
    → (m : Option ℕ) × Does l m (look l.key leaves)
unfolding undone rest_of
newest_does n l ls slides leaves bs b e w s =
    let (m, d, h) = held_back n l.key (undone 0) bs b l ls e w (ap rest_of w) refl (s.at_key l.key) in
    (m, d)

pub settles_undo : (n m : ℕ) (l : Line) (ls : List Line) (slides leaves : List Entry) (bs : List Batch) (b : Batch) → find_batch n bs ≡ some b → b.lines ≡ l ∷ ls → Settles slides leaves bs
    → Settles slides (undo_apply l leaves) (change_batch n (undone m) bs)
unfolding undone rest_of Off
settles_undo n m l ls slides leaves bs b e w s =
    let (t, d) = newest_does n l ls slides leaves bs b e w s in
    record {
      slides_rise = s.slides_rise;
      leaves_rise = undo_rising l.adds l.key l.value leaves t s.leaves_rise d;
      at_key = λ k. at k (ℕ_discrete k l.key);
    }
  where
    fewer_off : (k : ℕ) (c : Batch) → Off k c.lines → Off k (rest_of c.lines)
    fewer_off k c q = go c.lines q
      where
        go : (ms : List Line) → Off k ms → Off k (rest_of ms)
        go [] q = q
        go (x ∷ ms) q = q.1

    at : (k : ℕ) → Dec (k ≡ l.key) → Held k (look k slides) (change_batch n (undone m) bs) (look k (undo_apply l leaves))
    at k (yes z) =
        let (t, d, h) = held_back n k (undone m) bs b l ls e w (ap rest_of w) z (s.at_key k) in
        let d' : Does l t (look l.key leaves) = subst (λ j. Does l t (look j leaves)) z d in
        let y : look k (undo_apply l leaves) ≡ t = ap (λ j. look j (undo_apply l leaves)) z ∙ undo_look l.adds l.key l.value leaves t s.leaves_rise d' in
        subst (λ v. Held k (look k slides) (change_batch n (undone m) bs) v) (sym y) h
    at k (no z) =
        subst (λ v. Held k (look k slides) (change_batch n (undone m) bs) v) (sym (undo_other l.adds k l.key l.value leaves s.leaves_rise z))
        (held_fewer n k (undone m) bs b l ls e w (ap rest_of w) z (fewer_off k) (s.at_key k))

-- ---- commit, end, begin, mark

pub settles_commit : (n : ℕ) (slides leaves : List Entry) (bs : List Batch) (b : Batch) → find_batch n bs ≡ some b → Settles slides leaves bs
    → Settles (carry_lines b.lines slides) leaves (drop_batch n bs)
settles_commit n slides leaves bs b e s =
    let (r, f) = carry_runs b.lines slides s.slides_rise (λ k. (held_drop n k bs b e (s.at_key k)).0) (λ k. (held_drop n k bs b e (s.at_key k)).1) in
    record {
      slides_rise = r;
      leaves_rise = s.leaves_rise;
      at_key = λ k. subst (λ o. Held k o (drop_batch n bs) (look k leaves)) (sym (f k)) (held_drop n k bs b e (s.at_key k)).2;
    }

pub settles_end : (n : ℕ) (slides leaves : List Entry) (bs : List Batch) (b : Batch) → find_batch n bs ≡ some b → b.lines ≡ [] → Settles slides leaves bs
    → Settles slides leaves (drop_batch n bs)
unfolding carry_lines
settles_end n slides leaves bs b e w s =
    let t = settles_commit n slides leaves bs b e s in
    subst (λ ls. Settles (carry_lines ls slides) leaves (drop_batch n bs)) w t

pub settles_begin : (slides leaves : List Entry) (bs : List Batch) (b : Batch) → b.lines ≡ [] → Settles slides leaves bs → Settles slides leaves (bs ++ b ∷ [])
settles_begin slides leaves bs b w s = record { slides_rise = s.slides_rise; leaves_rise = s.leaves_rise; at_key = λ k. held_begin b w (s.at_key k) }

pub settles_mark : (n m : ℕ) (slides leaves : List Entry) (bs : List Batch) → Settles slides leaves bs → Settles slides leaves (change_batch n (mark_set m) bs)
unfolding mark_set
settles_mark n m slides leaves bs s =
    record { slides_rise = s.slides_rise; leaves_rise = s.leaves_rise; at_key = λ k. held_change n k (mark_set m) (λ b q. q) (λ b o c r. r) (s.at_key k) }
