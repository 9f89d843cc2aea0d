-- EVERY STEP KEEPS ITS RECORD'S ROW (refusal 4).
use Rattle.std.specs.Prelude.{ℕ, suc, ◌≤◌, ◌<◌, ◌≡◌, refl, Bool, true, List, [], ◌∷◌, ◌++◌, length, leb, ltb}
use Rattle.std.proofs.Common.{sym, ap, ◌∙◌, subst, append_assoc, append-nil, arith, length-append}
use Rattle.std.proofs.Math.Dec.{eqb-suc-zero}
use Rattle.def_base.specs.Tests.{Case, yes!, no!, case, lt_true, eq_true, le_true, and_both, or_left, or_right, every}
use Rattle.def_layout.specs.declared.Entry.{Entry}
use Rattle.def_layout.specs.Entries.{top}
use Rattle.def_layout.specs.Sizes.{room}
use Rattle.def_layout.specs.Pages.{Page, map_bits}
use Rattle.def_layout.specs.Records.{Kind, begin, Rec, batch_row, data_row}
use Rattle.def_layout.specs.Rows.{carries, named_only, level_bits, one_side, row_says, row}
use Rattle.def_model.specs.Change.{first_key, kept}
use Rattle.def_model.specs.Fit.{after}
use Rattle.def_model.specs.TreeRules.{Node, flat}
use Rattle.theory_tree.specs.Order.Keys.{Rising, after_append, rising_cut, after_grows}
use Rattle.theory_tree.specs.Shape.Levels.{flat_append, Match, ChainOk, chain_rising, chain_cut}
use Rattle.theory_tree.specs.Change.LevelChanges.{Splits}
use Rattle.theory_tree.specs.Shape.Chains.{All}
use Rattle.theory_tree.specs.Shape.Trees.{is_bottom, Levels, Joined, joined_cut, levels_at}
use Rattle.theory_tree.specs.Change.Merge.{merged}
use Rattle.theory_tree.specs.Change.Share.{shared_left, shared_right}
use Rattle.theory_tree.specs.Shape.Rules.{Rules}
use Rattle.theory_tree.specs.Step.Steps.{Adding, by_insert, by_undo_delete, Removing, by_delete, by_undo_insert, Noting, by_begin, by_commit, by_mark, by_end, Step, splits, links, unlinks, merges, shares, raises, lowers, puts, cuts, notes}
use Rattle.theory_tree.specs.Step.Parts.{under}
use Rattle.theory_fit.specs.Children.{match_bits, bits_part, below_of}

-- ---- children of ten bits

-- A part of the entries of a node.
pub part_bits : (pages : List Page) (xs : List Node) (n : Node) (ys : List Node) (downs : List (List Node)) (a b c : List Entry)
    → n.items ≡ a ++ (b ++ c) → length pages ≤ map_bits
    → Levels pages ((xs ++ n ∷ ys) ∷ downs) → Joined ((xs ++ n ∷ ys) ∷ downs) → level_bits (length downs) b ≡ true
unfolding Levels Joined flat
part_bits pages xs n ys [] a b c w h lv j = refl
part_bits pages xs n ys (d ∷ ds) a b c w h lv j =
    let m : Match (flat xs ++ (n.items ++ flat ys)) d = subst (λ z. Match z d) (flat_append xs (n ∷ ys)) j.0 in
    let e : flat xs ++ (n.items ++ flat ys) ≡ (flat xs ++ a) ++ (b ++ (c ++ flat ys)) = ap (λ z. flat xs ++ (z ++ flat ys)) w ∙ simp append_assoc in
    rw (eqb-suc-zero (length ds)) (bits_part (flat xs ++ a) b (c ++ flat ys) (match_bits pages (length ds) 0 h (subst (λ z. Match z d) e m) lv.1.0.chained))

pub node_level_bits : (pages : List Page) (xs : List Node) (n : Node) (ys : List Node) (downs : List (List Node)) → length pages ≤ map_bits
    → Levels pages ((xs ++ n ∷ ys) ∷ downs) → Joined ((xs ++ n ∷ ys) ∷ downs) → level_bits (length downs) n.items ≡ true
node_level_bits pages xs n ys downs h lv j = part_bits pages xs n ys downs [] n.items [] (sym (append-nil n.items)) h lv j

-- ---- all on one side

every_upto : (key from : ℕ) (es : List Entry) → Rising from es → after from es ≤ suc key → every (λ e. leb e.key key) es ≡ true
unfolding every Rising after
every_upto key from [] r h = refl
every_upto key from (e ∷ es) r h =
    let g = after_grows (suc e.key) es r.1 in
    and_both (le_true e.key key (omega arith)) (every_upto key (suc e.key) es r.1 h)

every_above : (key from : ℕ) (es : List Entry) → key < from → Rising from es → every (λ e. ltb key e.key) es ≡ true
unfolding every Rising
every_above key from [] h r = refl
every_above key from (e ∷ es) h r = let a = r.0 in and_both (lt_true key e.key (omega arith)) (every_above key (suc e.key) es (omega arith) r.1)

-- What a redistribution moves has room in a record, and lies on one side of its key.
pub record Moves (key : ℕ) (moved : List Entry) : Type 0 where
  pub room_for : length moved ≤ room
  pub side : one_side key moved ≡ true

moves : (q r : Node) (key : ℕ) (moved : List Entry) (c : ℕ) → Rising c (q.items ++ r.items)
    → Splits (merged q r) (shared_left q key moved) (shared_right r key moved)
    → length (shared_left q key moved).items ≤ room → length (shared_right r key moved).items ≤ room → Moves key moved
unfolding one_side
moves q r key moved c rs s l₁ l₂ = go (case (leb (first_key moved) key))
  where
    L : List Entry
    L = (shared_left q key moved).items

    R : List Entry
    R = (shared_right r key moved).items

    both : Rising c L × Rising (after c L) R
    both = rising_cut c L R (subst (Rising c) s.same_items rs)

    last : after c L ≡ suc key
    last = s.last_key c

    go : Case (leb (first_key moved) key) → Moves key moved
    go (yes! t) =
        let w : L ≡ q.items ++ moved = rw t refl in
        let n = ap length w ∙ length-append q.items moved in
        let rm = (rising_cut c q.items moved (subst (Rising c) w both.0)).1 in
        let am : after (after c q.items) moved ≡ suc key = sym (after_append c q.items moved) ∙ ap (after c) (sym w) ∙ last in
        record { room_for = omega arith; side = or_left (every (λ e. ltb key e.key) moved) (every_upto key (after c q.items) moved rm (omega arith)) }
    go (no! t) =
        let w : R ≡ moved ++ r.items = rw t refl in
        let n = ap length w ∙ length-append moved r.items in
        let rr : Rising (suc key) R = subst (λ z. Rising z R) last both.1 in
        let rm = (rising_cut (suc key) moved r.items (subst (Rising (suc key)) w rr)).0 in
        record { room_for = omega arith; side = or_right (every (λ e. leb e.key key) moved) (every_above key (suc key) moved (omega arith) rm) }

-- The entries of two neighbours rise together.
neighbours_rise : (b : Bool) (bs : List Node) (q r : Node) (cs : List Node) → ChainOk b 0 (bs ++ q ∷ r ∷ cs) (suc top)
    → (c : ℕ) × Rising c (q.items ++ r.items)
unfolding flat
neighbours_rise b bs q r cs h =
    let c = chain_cut b 0 bs (q ∷ r ∷ cs) (suc top) h in
    let a = chain_rising b c.mid (q ∷ r ∷ cs) (suc top) c.right in
    (c.mid, (rising_cut c.mid (q.items ++ r.items) (flat cs) (subst (Rising c.mid) (sym (append_assoc q.items r.items (flat cs))) a)).0)

-- ---- the rows

-- A begin names its own number as its batch.
abbrev pub Begins : ℕ → Rec → Type 0
Begins n r = r.kind ≡ begin → (r.batch ≡ n) × (r.previous ≡ 0)

note_row : (n : ℕ) (kind : Kind) (batch previous : ℕ) → Noting kind → Begins n (batch_row kind batch previous)
    → row n (batch_row kind batch previous) ≡ true
unfolding row carries named_only row_says
note_row n kind batch previous by_begin h = let (a, b) = h refl in rw (eq_true previous 0 b, eq_true batch n a)
note_row n kind batch previous by_commit h = refl
note_row n kind batch previous by_mark h = refl
note_row n kind batch previous by_end h = refl

add_row : (n : ℕ) (kind : Kind) (batch previous a key v : ℕ) → Adding kind → row n (data_row kind batch previous a key v) ≡ true
unfolding row carries named_only row_says
add_row n kind batch previous a key v by_insert = refl
add_row n kind batch previous a key v by_undo_delete = refl

cut_row : (n : ℕ) (kind : Kind) (batch previous a key v u : ℕ) → Removing kind v u → row n (data_row kind batch previous a key v) ≡ true
unfolding row carries named_only row_says
cut_row n kind batch previous a key v u by_delete = refl
cut_row n kind batch previous a key v u by_undo_insert = refl

pub step_row : (n : ℕ) (pages : List Page) (ls ls' : List (List Node)) (r : Rec) → length pages ≤ map_bits → Step pages ls r ls' → Rules pages ls
    → Begins n r → row n r ≡ true
unfolding row carries named_only row_says Levels Joined All
step_row n pages ls ls' r few (splits ups xs m ys downs b key moved s full seven d g pos) k h =
    and_both (le_true (length moved) room (omega arith))
    (part_bits pages xs m ys downs (kept moved m.items) moved [] (s.same_items ∙ ap (kept moved m.items ++◌) (sym (append-nil moved))) few
    (below_of pages ups (xs ++ m ∷ ys) downs k.levels) (joined_cut ups (xs ++ m ∷ ys) downs k.joined).1)
step_row n pages ls ls' r few (links ups xs p ys bs q t cs downs pre e post old space v l hh m₁ m₂) k h = refl
step_row n pages ls ls' r few (unlinks ups xs p ys bs q t cs downs pre e₁ e₂ post old v₁ k₁ v₂ k₂ qr m₁ m₂ fit) k h = refl
step_row n pages ls ls' r few (merges ups u bs q t cs downs es e fs w v hh m₁ m₂ space) k h =
    let a = length-append q.items t.items in
    and_both (le_true (length t.items) room (omega arith)) refl
step_row n pages ls ls' r few (shares ups u bs q t cs downs es e fs key moved w v hh m₁ m₂ s z₁ z₂) k h =
    let lv = subst (Levels pages) (sym (under ups u (bs ++ q ∷ t ∷ cs) downs)) k.levels in
    let (c, rs) = neighbours_rise (is_bottom (length downs)) bs q t cs (levels_at pages (ups ++ u ∷ []) (bs ++ q ∷ t ∷ cs) downs lv).chain in
    let mv = moves q t key moved c rs s z₁.0 z₂.0 in
    and_both (le_true (length moved) room mv.room_for) mv.side
step_row n pages ls ls' r few (raises a s downs c g pos) k h =
    and_both (le_true (length a.items) room k.levels.0.small.0) (node_level_bits pages [] a (s ∷ []) downs few k.levels k.joined)
step_row n pages ls ls' r few (lowers m q downs e root only is ends) k h =
    and_both (le_true (length q.items) room k.levels.1.0.small.0) (node_level_bits pages [] q [] downs few k.levels.1 k.joined.1)
step_row n pages ls ls' r few (puts kind batch previous key v ups xs m ys a low within absent space) k h = add_row n kind batch previous m.page key v a
step_row n pages ls ls' r few (cuts kind batch previous key v u ups xs m ys a low within there fit) k h = cut_row n kind batch previous m.page key v u a
step_row n pages ls ls' r few (notes kind batch previous q) k h = note_row n kind batch previous q h
