-- A run that goes down to remove a key: a child with four entries is joined with a neighbour, and a root with one child is lowered.
use Rattle.std.specs.Prelude.{◌≡◌, ℕ, suc, ◌+◌, ◌<◌, ◌≤◌, List, ◌∷◌, length}
use Rattle.std.proofs.Math.Path.{refl, ap, sym, subst}
use Rattle.std.proofs.Common.{ap₂, ◌∙◌, arith}
use Rattle.std.proofs.Math.Bool.{true, false}
use Rattle.std.proofs.Math.Option.{Option, none, some}
use Rattle.std.proofs.Math.Dec.{eqb}
use Rattle.def_base.specs.Tests.{eq_true, neq_false, lt_true, lt_false}
use Rattle.def_layout.specs.declared.Entry.{Entry}
use Rattle.def_layout.specs.Entries.{no_entry, entry_at, place}
use Rattle.def_layout.specs.Pages.{Page, at, size}
use Rattle.def_layout.specs.Records.{Rec, Kind, data_row}
use Rattle.def_model.specs.Lookup.{covering, entry_for}
use Rattle.def_model.specs.Update.{Run, At, Pair, emit, make_room, link_child, direct, raise_root, next_entry, entry_before, link_after_by, link_after, unlink_join, join_left, join_by_entry, restock, refind, stocked_by, stocked, lower_root, lone, step_by, descend_remove, remove_record}
use Rattle.codec_page.specs.declared.Page as program
use Rattle.codec_page.specs.Typed.{typed}
use Rattle.law_bytes.specs.Tables.{tab_length}
use Rattle.law_bytes.specs.EntryBytes.{used, used_in}
use Rattle.record_pages.specs.Pages.{Reads, reads_count}
use Rattle.tree_write.specs.declared.Run as run
use Rattle.tree_write.specs.Shows.{Shows}
use Rattle.tree_add.specs.declared.At as here
use Rattle.tree_add.specs.declared.Pair as two
use Rattle.tree_add.specs.Rooms.{ShowsAt, ShowsPair, high_is, right_is}
use Rattle.tree_remove.specs.Shares.{next_here, next_none, before_place}

-- ---- a neighbour is found

module _ (s : Run) (p r w : ℕ) (x : program.Page) (q : Reads x (at s.pages r)) where
  pub after_stays : w ≤ x.high → s ≡ link_after p r w s
  unfolding link_after link_after_by
  after_stays l = sym (rw (lt_false _ _ (subst (λ (i : ℕ). w ≤ i) (high_is q) l)))

  pub after_links : x.high < w → link_child p r w s ≡ link_after p r w s
  unfolding link_after link_after_by
  after_links l = sym (rw (lt_true _ _ (subst (λ (i : ℕ). i < w) (high_is q) l)))

module _ (s : Run) (p d q : ℕ) (x : program.Page) (a : Reads x (at s.pages d)) where
  pub left_child : x.right ≡ q → unlink_join p d q s ≡ join_left p d q s
  unfolding join_left
  left_child e = sym (rw (eq_true _ _ (sym (right_is a) ∙ e)))

  pub left_linked : (x.right ≡ q → ⊥) → unlink_join p x.right q s ≡ join_left p d q s
  unfolding join_left
  left_linked n = ap (λ (i : ℕ). unlink_join p i q s) (right_is a) ∙ sym (rw (neq_false (λ z. n (right_is a ∙ z))))

module _ (s : Run) (k q p : ℕ) (x : program.Page) (a : Reads x (at s.pages p)) (i : ℕ) (f : Entry) (e : i ≡ place k (used x.count x.entries)) where
  abbrev here_is : At
  here_is = record { run = s; page = p }

  many : length (used x.count x.entries) ≡ x.count
  many = tab_length x.count (entry_at x.entries)

  by_entries : (o : Option Entry) (d : Entry) → next_entry k (used x.count x.entries) ≡ o → entry_before k no_entry (used x.count x.entries) ≡ d
      → restock k q here_is ≡ join_by_entry o p q d s
  unfolding restock
  by_entries o d n b = rw (← a.list, n, b)

  -- It is not the last child.
  pub restock_next : i + 1 < x.count → f ≡ entry_at x.entries (i + 1) → unlink_join p q f.val (link_after p f.val f.key s) ≡ restock k q here_is
  unfolding join_by_entry
  restock_next l g =
      let z : next_entry k (used x.count x.entries) ≡ some f =
      next_here k (used x.count x.entries) (omega (arith, many))
      ∙ ap (λ (j : ℕ). some (entry_at (used x.count x.entries) (j + 1))) (sym e) ∙ ap some (used_in x.count (i + 1) x.entries l ∙ sym g) in
      sym (by_entries (some f) _ z refl)

  -- It is the last.
  pub restock_last : x.count ≤ i + 1 → f ≡ entry_at (no_entry ∷ used x.count x.entries) i
      → join_left p f.val q (link_after p f.val f.key s) ≡ restock k q here_is
  unfolding join_by_entry
  restock_last l g =
      let z : entry_before k no_entry (used x.count x.entries) ≡ f =
      before_place k no_entry (used x.count x.entries) ∙ ap (λ (j : ℕ). entry_at (no_entry ∷ used x.count x.entries) j) (sym e) ∙ sym g in
      sym (by_entries none f (next_none k (used x.count x.entries) (omega (arith, many))) z)

-- ---- the child is stocked

pub refind_is : (k p : ℕ) (s : Run) (x : program.Page) (e : Entry) (i : ℕ) → Reads x (at s.pages p) → e ≡ entry_for k (typed x).entries → i ≡ covering k e.val s.pages → i ≡ (refind k p s).page
unfolding refind
refind_is k p s x e i a f g = g ∙ ap (λ (d : Entry). covering k d.val s.pages) (f ∙ ap (λ (y : Page). entry_for k y.entries) a.is)

module _ {n m : ℕ} {wp wl : List ℕ} {d : two.Pair} {e : Pair} (h : ShowsPair n m wp wl d e) (k : ℕ) where
  module _ (x : program.Page) (a : Reads x (at e.run.pages d.child)) where
    child_count : x.count ≡ size (at e.run.pages e.child)
    child_count = reads_count a ∙ ap (λ (i : ℕ). size (at e.run.pages i)) h.child

    pub stocked_stays : (x.count ≡ 4 → ⊥) → ShowsAt n m wp wl (record { run = d.run; page = d.child }) (stocked k e)
    unfolding stocked stocked_by
    stocked_stays c =
        let z : stocked k e ≡ record { run = e.run; page = e.child } = rw (neq_false (λ w. c (child_count ∙ w))) in
        subst (ShowsAt n m wp wl (record { run = d.run; page = d.child })) (sym z) (record { run = h.run; page = h.child })

    -- The run and the page where room was made are those of the model's pair.
    restocked : (j : ℕ) → j ≡ (make_room k d.parent e.run).page
        → restock k d.child (record { run = (make_room k d.parent e.run).run; page = j }) ≡ restock k e.child (make_room k e.parent e.run)
    restocked j b =
        ap (λ (i : ℕ). restock k d.child (record { run = (make_room k d.parent e.run).run; page = i })) b
        ∙ ap₂ (λ (p q : ℕ). restock k q (make_room k p e.run)) h.parent h.child

    pub stocked_joins : {wp' wl' : List ℕ} (u : run.Run) (j i : ℕ) → x.count ≡ 4 → j ≡ (make_room k d.parent e.run).page
        → Shows n m wp' wl' u (restock k d.child (record { run = (make_room k d.parent e.run).run; page = j }))
        → ((y : Run) → Shows n m wp' wl' u y → i ≡ (refind k j y).page) → ShowsAt n m wp' wl' (record { run = u; page = i }) (stocked k e)
    unfolding stocked stocked_by refind
    stocked_joins {wp'} {wl'} u j i c b g f =
        let r : Run = restock k e.child (make_room k e.parent e.run) in
        let z : stocked k e ≡ refind k (make_room k e.parent e.run).page r = rw (eq_true _ _ (sym child_count ∙ c)) in
        let w : Shows n m wp' wl' u r = subst (Shows n m wp' wl' u) (restocked j b) g in
        let o : j ≡ (make_room k e.parent e.run).page = b ∙ ap (λ (p : ℕ). (make_room k p e.run).page) h.parent in
        subst (ShowsAt n m wp' wl' (record { run = u; page = i })) (sym z) (record { run = w; page = f r w ∙ ap (λ (p : ℕ). (refind k p r).page) o })

  -- ---- the root is lowered

  pub step_other : (d.parent ≡ 1 → ⊥) → stocked k e ≡ step_by (lone e) k e
  unfolding step_by
  step_other o = sym (rw (neq_false (λ z. o (h.parent ∙ z))))

  module _ (x : program.Page) (one : d.parent ≡ 1) (a : Reads x (at e.run.pages 1)) where
    root : e.parent ≡ 1
    root = sym h.parent ∙ one

    root_count : size (at e.run.pages e.parent) ≡ x.count
    root_count = ap (λ (i : ℕ). size (at e.run.pages i)) root ∙ sym (reads_count a)

    pub step_many : (x.count ≡ 1 → ⊥) → stocked k e ≡ step_by (lone e) k e
    unfolding step_by
    step_many c =
        let z : eqb (size (at e.run.pages e.parent)) 1 ≡ false = neq_false (λ w. c (sym root_count ∙ w)) in
        sym (rw (eq_true e.parent 1 root, z))

    pub step_lowers : {wp' wl' : List ℕ} (u : run.Run) → x.count ≡ 1 → Shows n m wp' wl' u (lower_root d.child e.run)
        → ShowsAt n m wp' wl' (record { run = u; page = 1 }) (step_by (lone e) k e)
    unfolding step_by
    step_lowers {wp'} {wl'} u c g =
        let z : eqb (size (at e.run.pages e.parent)) 1 ≡ true = eq_true _ _ (root_count ∙ c) in
        let q : step_by (lone e) k e ≡ record { run = lower_root e.child e.run; page = 1 } = rw (eq_true e.parent 1 root, z) in
        subst (ShowsAt n m wp' wl' (record { run = u; page = 1 })) (sym q)
        (record { run = subst (λ (i : ℕ). Shows n m wp' wl' u (lower_root i e.run)) h.child g; page = refl })

-- ---- going down

-- One level down.
abbrev pub one_down : ℕ → ℕ → Run → At
one_down k p s = step_by (lone (direct k p s)) k (direct k p s)

-- Where a descent of l₀ levels has come to, with l more to go.
abbrev pub Down : (n m : ℕ) (wp₀ wl₀ wp wl : List ℕ) (t₀ t : run.Run) (k l₀ p₀ l p : ℕ) → Type 0
Down n m wp₀ wl₀ wp wl t₀ t k l₀ p₀ l p =
    (s : Run) → Shows n m wp₀ wl₀ t₀ s → (u : Run) × (Shows n m wp wl t u × (descend_remove l k p u ≡ descend_remove l₀ k p₀ s))

pub down_start : {n m : ℕ} {wp wl : List ℕ} {t : run.Run} (k l₀ p l : ℕ) → l ≡ l₀ → Down n m wp wl wp wl t t k l₀ p l p
down_start k l₀ p l e s h = (s, (h, ap (λ (i : ℕ). descend_remove i k p s) e))

module _ {n m : ℕ} {wp₀ wl₀ wp wl : List ℕ} {t₀ t : run.Run} (k l₀ p₀ p : ℕ) where
  pub down_step : {wp' wl' : List ℕ} (l l' : ℕ) (a : here.At) → l ≡ suc l' → Down n m wp₀ wl₀ wp wl t₀ t k l₀ p₀ l p
      → ((s : Run) → Shows n m wp wl t s → ShowsAt n m wp' wl' a (one_down k p s)) → Down n m wp₀ wl₀ wp' wl' t₀ a.run k l₀ p₀ l' a.page
  unfolding descend_remove
  down_step l l' a e down f s h =
      let (u, (g, q)) = down s h in
      let w = f u g in
      ((one_down k p u).run, (w.run, ap (λ (c : ℕ). descend_remove l' k c (one_down k p u).run) w.page ∙ sym (ap (λ (i : ℕ). descend_remove i k p u) e) ∙ q))

  pub down_end : (l : ℕ) (s : Run) → l ≡ 0 → l₀ ≡ (at s.pages 1).level → p₀ ≡ 1 → Down n m wp₀ wl₀ wp wl t₀ t k l₀ p₀ l p → Shows n m wp₀ wl₀ t₀ s
      → ShowsAt n m wp wl (record { run = t; page = p }) (descend_remove (at s.pages 1).level k 1 s)
  unfolding descend_remove
  down_end l s z e one down h =
      let (u, (g, q)) = down s h in
      let r : record { run = u; page = p } ≡ descend_remove (at s.pages 1).level k 1 s
      = sym (ap (λ (i : ℕ). descend_remove i k p u) z) ∙ q ∙ ap (λ (i : ℕ). descend_remove i k p₀ s) e ∙ ap (λ (i : ℕ). descend_remove (at s.pages 1).level k i s) one in
      subst (ShowsAt n m wp wl (record { run = t; page = p })) r (record { run = g; page = refl })

-- The leaf that a removal comes to, from a root that was raised if it had to be.
abbrev pub leaf_at : ℕ → Run → At
leaf_at k s = descend_remove (at (raise_root s).pages 1).level k 1 (raise_root s)

pub removed_at : {n m : ℕ} {wp wl : List ℕ} {u : run.Run} (kind : Kind) (batch previous k v : ℕ) (s : Run) (p : ℕ) (r : Rec) → p ≡ (leaf_at k s).page
    → r ≡ data_row kind batch previous p k v → Shows n m wp wl u (emit r (leaf_at k s).run) → Shows n m wp wl u (remove_record kind batch previous k v s)
unfolding remove_record
removed_at {n} {m} {wp} {wl} {u} kind batch previous k v s p r e g h =
    subst (λ (z : Rec). Shows n m wp wl u (emit z (leaf_at k s).run)) (g ∙ ap (λ (i : ℕ). data_row kind batch previous i k v) e) h
