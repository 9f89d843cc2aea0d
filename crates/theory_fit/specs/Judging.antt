-- How refusal 5 judges: by a page's part in the record, and what the tests say of a node's page.
use Rattle.std.specs.Prelude.{ℕ, zero, suc, ◌+◌, ◌-◌, ◌≤◌, ◌<◌, ◌≡◌, refl, true, false, ◌&&◌, List, [], ◌∷◌, ◌++◌, length, take, drop, eqb}
use Rattle.std.proofs.Common.{sym, ap, ◌∙◌, subst, arith, length-append}
use Rattle.std.proofs.Math.Dec.{eqb-suc-zero}
use Rattle.def_base.specs.Tests.{Case, yes!, no!, case, lt_true, lt_false, true_eq, eq_true, le_true, and_true}
use Rattle.def_layout.specs.declared.Entry.{Entry}
use Rattle.def_layout.specs.Entries.{same_entries}
use Rattle.def_layout.specs.Pages.{page_kind_number, kind_is, Page, kind_at, at}
use Rattle.def_layout.specs.Records.{Rec}
use Rattle.def_model.specs.Change.{Role, as_a, as_b, as_c, as_map, shape, role}
use Rattle.def_model.specs.Fit.{after, link_fits, side_by_side, is_leaf, is_index, is_node, at_level, fits_role, fits}
use Rattle.def_model.specs.TreeRules.{Node}
use Rattle.theory_tree.specs.Order.Keys.{Rising, rising_mid}
use Rattle.theory_tree.specs.Shape.Chains.{IsNode}
use Rattle.theory_tree.specs.Test.Complete.{kind_complete}
use Rattle.theory_update.specs.Find.Halves.{uncons}

-- A record fits every page where it fits those that it changes, each in its part.
pub role_cases : (r : Rec) (p : ℕ) (pages : List Page)
    → ((shape r.kind).a ≡ true → fits_role r as_a (at pages r.pageA) ≡ true)
    → ((shape r.kind).b ≡ true → fits_role r as_b (at pages r.pageB) ≡ true)
    → ((shape r.kind).c ≡ true → fits_role r as_c (at pages r.pageC) ≡ true)
    → ((shape r.kind).m ≡ true → fits_role r as_map (at pages 0) ≡ true) → fits p r (at pages p) ≡ true
unfolding role fits_role
role_cases r p pages fa fb fc fm =
    go (case ((shape r.kind).a && eqb p r.pageA)) (case ((shape r.kind).b && eqb p r.pageB)) (case ((shape r.kind).c && eqb p r.pageC)) (case ((shape r.kind).m && eqb p 0))
  where
    move : (q : ℕ) (o : Role) → eqb p q ≡ true → fits_role r o (at pages q) ≡ true → fits_role r o (at pages p) ≡ true
    move q o e h = subst (λ z. fits_role r o (at pages z) ≡ true) (sym (true_eq p q e)) h

    go : Case ((shape r.kind).a && eqb p r.pageA) → Case ((shape r.kind).b && eqb p r.pageB) → Case ((shape r.kind).c && eqb p r.pageC)
        → Case ((shape r.kind).m && eqb p 0)
        → fits_role r (role r p) (at pages p) ≡ true
    go (yes! a) b c m = let (x, y) = and_true (shape r.kind).a (eqb p r.pageA) a in rw a (move r.pageA as_a y (fa x))
    go (no! a) (yes! b) c m = let (x, y) = and_true (shape r.kind).b (eqb p r.pageB) b in rw (a, b) (move r.pageB as_b y (fb x))
    go (no! a) (no! b) (yes! c) m = let (x, y) = and_true (shape r.kind).c (eqb p r.pageC) c in rw (a, b, c) (move r.pageC as_c y (fc x))
    go (no! a) (no! b) (no! c) (yes! m) = let (x, y) = and_true (shape r.kind).m (eqb p 0) m in rw (a, b, c, m) (move 0 as_map y (fm x))
    go (no! a) (no! b) (no! c) (no! m) = rw (a, b, c, m)

-- ---- lists of entries

pub entries_self : (es : List Entry) → same_entries es es ≡ true
unfolding same_entries
entries_self [] = refl
entries_self (e ∷ es) = rw (eq_true e.key e.key refl, eq_true e.val e.val refl) (entries_self es)

pub entries_same : (es fs : List Entry) → es ≡ fs → same_entries es fs ≡ true
entries_same es fs e = subst (λ z. same_entries es z ≡ true) e (entries_self es)

pub cancel_left : (a b c : List Entry) → a ++ b ≡ a ++ c → b ≡ c
cancel_left [] b c e = e
cancel_left (x ∷ a) b c e = cancel_left a b c (uncons e).1

pub cancel_size : (a b c d : List Entry) → length a ≡ length b → a ++ c ≡ b ++ d → a ≡ b
cancel_size [] [] c d l e = refl
cancel_size [] (y ∷ b) c d l e = absurd (omega (arith, l))
cancel_size (x ∷ a) [] c d l e = absurd (omega (arith, l))
cancel_size (x ∷ a) (y ∷ b) c d l e = λ i. (uncons e).0 i ∷ cancel_size a b c d (omega arith) (uncons e).1 i

pub take_all : (a b : List Entry) → take (length a) (a ++ b) ≡ a
take_all [] b = refl
take_all (x ∷ a) b = ap (x ∷◌) (take_all a b)

drop_all : (a b : List Entry) → drop (length a) (a ++ b) ≡ b
drop_all [] b = refl
drop_all (x ∷ a) b = drop_all a b

-- A list whose last part is `moved`.
pub tail_cut : (es a moved : List Entry) → es ≡ a ++ moved → (drop (length es - length moved) es ≡ moved) × (take (length es - length moved) es ≡ a)
tail_cut es a moved e =
    let l : length es ≡ length a + length moved = ap length e ∙ length-append a moved in
    let d : length es - length moved ≡ length a = omega arith in
    (ap (λ z. drop z es) d ∙ ap (drop (length a)) e ∙ drop_all a moved, ap (λ z. take z es) d ∙ ap (take (length a)) e ∙ take_all a moved)

-- ---- what a link and an unlink look for

pub link_fit : (b u w from : ℕ) (pre : List Entry) (e : Entry) (post : List Entry) → Rising from (pre ++ e ∷ post) → e.key ≡ w → e.val ≡ b
    → after from pre ≤ u → u < w → link_fits b u w from (pre ++ e ∷ post) ≡ true
unfolding link_fits Rising after
link_fit b u w from [] e post r k v l h = rw (lt_false e.key w (omega arith), eq_true e.key w k, eq_true e.val b v, le_true from u l, lt_true u w h)
link_fit b u w from (x ∷ pre) e post r k v l h =
    let m = rising_mid (suc x.key) pre e post r.1 in
    rw (lt_true x.key w (omega arith)) (link_fit b u w (suc x.key) pre e post r.1 k v l h)

pub side_fit : (b u c w from : ℕ) (pre : List Entry) (e f : Entry) (post : List Entry) → Rising from (pre ++ e ∷ f ∷ post) → e.key ≡ u → e.val ≡ b
    → f.key ≡ w → f.val ≡ c → side_by_side b u c w (pre ++ e ∷ f ∷ post) ≡ true
unfolding side_by_side Rising
side_fit b u c w from [] e f post r k v k₂ v₂ = rw (lt_false e.key u (omega arith), eq_true e.key u k, eq_true e.val b v, eq_true f.key w k₂, eq_true f.val c v₂)
side_fit b u c w from (x ∷ []) e f post r k v k₂ v₂ =
    let m = r.1.0 in
    rw (lt_true x.key u (omega arith), lt_false e.key u (omega arith), eq_true e.key u k, eq_true e.val b v, eq_true f.key w k₂, eq_true f.val c v₂)
side_fit b u c w from (x ∷ y ∷ pre) e f post r k v k₂ v₂ =
    let m = rising_mid (suc x.key) (y ∷ pre) e (f ∷ post) r.1 in
    rw (lt_true x.key u (omega arith)) (side_fit b u c w (suc x.key) (y ∷ pre) e f post r.1 k v k₂ v₂)

-- ---- kinds and levels

pub level_test : (x : Page) (l next : ℕ) (n : Node) → IsNode x l next n → at_level l x ≡ true
level_test x l next n i = rw (i.kind, kind_complete (kind_at l), eq_true x.level l i.level)

pub node_test : (x : Page) (l next : ℕ) (n : Node) → IsNode x l next n → is_node x ≡ true
unfolding kind_is page_kind_number
node_test x zero next n i = rw i.kind
node_test x (suc l) next n i = rw (i.kind, eqb-suc-zero l)

pub index_test : (x : Page) (l next : ℕ) (n : Node) → IsNode x (suc l) next n → is_index x ≡ true
unfolding kind_is page_kind_number
index_test x l next n i = rw (i.kind, eqb-suc-zero l)

pub leaf_test : (x : Page) (next : ℕ) (n : Node) → IsNode x 0 next n → is_leaf x ≡ true
unfolding kind_is page_kind_number
leaf_test x next n i = rw i.kind

pub index_not_leaf : (x : Page) (l next : ℕ) (n : Node) → IsNode x (suc l) next n → is_leaf x ≡ false
unfolding kind_is page_kind_number
index_not_leaf x l next n i = rw (i.kind, eqb-suc-zero l)
