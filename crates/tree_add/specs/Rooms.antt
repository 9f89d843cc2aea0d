-- A run that has come to a page: room is made there, its children are linked, and the run goes down.
use Rattle.std.specs.Prelude.{◌≡◌, ℕ, suc, ◌<◌, ◌≤◌, List, leb}
use Rattle.std.proofs.Math.Path.{refl, ap, sym, subst}
use Rattle.std.proofs.Common.{◌∙◌}
use Rattle.std.proofs.Math.Bool.{true, false}
use Rattle.std.proofs.Math.Dec.{ltb}
use Rattle.def_base.specs.Tests.{pick, eq_true, neq_false, le_true, le_false, lt_true, lt_false}
use Rattle.def_layout.specs.declared.Entry.{Entry}
use Rattle.def_layout.specs.Pages.{Page, at}
use Rattle.def_layout.specs.Records.{Rec, Kind, data_row}
use Rattle.def_model.specs.Lookup.{covering, entry_for}
use Rattle.def_model.specs.Update.{Run, At, Pair, split_page, room_by, make_room, link_child, linked_by, direct_by, direct_for, direct, raise_by, raise_root, descend_add, find_add, emit, put_record}
use Rattle.law_bytes.specs.Slices.{Slice}
use Rattle.codec_page.specs.declared.Page as program
use Rattle.codec_page.specs.Typed.{typed}
use Rattle.record_pages.specs.Pages.{Reads, reads_count}
use Rattle.tree_write.specs.declared.Run as run
use Rattle.tree_write.specs.Shows.{Shows}
use Rattle.tree_add.specs.declared.At as here
use Rattle.tree_add.specs.declared.Pair as two

pub record ShowsAt (n m : ℕ) (wp wl : List ℕ) (a : here.At) (b : At) : Type 0 where
  pub run : Shows n m wp wl a.run b.run
  pub page : a.page ≡ b.page

pub record ShowsPair (n m : ℕ) (wp wl : List ℕ) (a : two.Pair) (b : Pair) : Type 0 where
  pub run : Shows n m wp wl a.run b.run
  pub parent : a.parent ≡ b.parent
  pub child : a.child ≡ b.child

-- Does, of code that comes to a page, and of code that comes to a page and its child.
abbrev pub DoesAt : (n m : ℕ) (wp wl : Slice) (t : run.Run) (a : here.At) (f : Run → At) → Type 0
DoesAt n m wp wl t a f = (s : Run) → Shows n m wp.entry.now wl.entry.now t s → ShowsAt n m wp.exit.now wl.exit.now a (f s)

abbrev pub DoesPair : (n m : ℕ) (wp wl : Slice) (t : run.Run) (d : two.Pair) (f : Run → Pair) → Type 0
DoesPair n m wp wl t d f = (s : Run) → Shows n m wp.entry.now wl.entry.now t s → ShowsPair n m wp.exit.now wl.exit.now d (f s)

-- ---- the half covering k

module _ {x : program.Page} {y : Page} (q : Reads x y) where
  pub high_is : x.high ≡ y.high
  unfolding typed
  high_is = ap (λ (z : Page). z.high) q.is

  pub right_is : x.right ≡ y.right
  unfolding typed
  right_is = ap (λ (z : Page). z.right) q.is

  pub level_is : x.level ≡ y.level
  unfolding typed
  level_is = ap (λ (z : Page). z.level) q.is

  pub half_left : (k p : ℕ) → k ≤ x.high → p ≡ pick (leb k y.high) p y.right
  half_left k p l = sym (rw (le_true k y.high (subst (λ (h : ℕ). k ≤ h) high_is l)))

  pub half_right : (k p : ℕ) → x.high < k → x.right ≡ pick (leb k y.high) p y.right
  half_right k p l = right_is ∙ sym (rw (le_false k y.high (subst (λ (h : ℕ). h < k) high_is l)))

-- ---- room is made

module _ {n m : ℕ} {wp wl : List ℕ} {t : run.Run} {s : Run} (h : Shows n m wp wl t s) (k p : ℕ) (x : program.Page) (q : Reads x (at s.pages p)) where
  pub room_stays : (x.count ≡ 14 → ⊥) → ShowsAt n m wp wl (record { run = t; page = p }) (make_room k p s)
  unfolding make_room room_by
  room_stays c =
      let e : make_room k p s ≡ record { run = s; page = p } = rw (neq_false (λ z. c (reads_count q ∙ z))) in
      subst (ShowsAt n m wp wl (record { run = t; page = p })) (sym e) (record { run = h; page = refl })

  pub room_split : {wp' wl' : List ℕ} (u : run.Run) (i : ℕ) → x.count ≡ 14 → Shows n m wp' wl' u (split_page p s) → i ≡ covering k p (split_page p s).pages
      → ShowsAt n m wp' wl' (record { run = u; page = i }) (make_room k p s)
  unfolding make_room room_by
  room_split {wp'} {wl'} u i c g f =
      let e : make_room k p s ≡ record { run = split_page p s; page = covering k p (split_page p s).pages } = rw (eq_true _ _ (sym (reads_count q) ∙ c)) in
      subst (ShowsAt n m wp' wl' (record { run = u; page = i })) (sym e) (record { run = g; page = f })

-- ---- the child is linked

module _ {n m : ℕ} {wp wl : List ℕ} {t : run.Run} {s : Run} (h : Shows n m wp wl t s) (k p : ℕ) (e : Entry) (x : program.Page)
    (f : e ≡ entry_for k (at s.pages p).entries) (q : Reads x (at s.pages e.val)) where
  pub direct_stays : e.key ≤ x.high → ShowsPair n m wp wl (record { run = t; parent = p; child = e.val }) (direct k p s)
  unfolding direct direct_for direct_by
  direct_stays l =
      let z : ltb (at s.pages e.val).high e.key ≡ false = lt_false _ _ (subst (λ (i : ℕ). e.key ≤ i) (high_is q) l) in
      let d : direct k p s ≡ record { run = s; parent = p; child = e.val } = rw (← f, z) in
      subst (ShowsPair n m wp wl (record { run = t; parent = p; child = e.val })) (sym d) (record { run = h; parent = refl; child = refl })

  pub direct_links : {wp' wl' : List ℕ} (a : here.At) (u : run.Run) (i : ℕ) → x.high < e.key → a.page ≡ (make_room k p s).page
      → Shows n m wp' wl' u (link_child a.page e.val e.key (make_room k p s).run)
      → ((y : Run) → Shows n m wp' wl' u y → i ≡ covering k e.val y.pages)
      → ShowsPair n m wp' wl' (record { run = u; parent = a.page; child = i }) (direct k p s)
  unfolding direct direct_for direct_by linked_by
  direct_links {wp'} {wl'} a u i l ep g j =
      let z : ltb (at s.pages e.val).high e.key ≡ true = lt_true _ _ (subst (λ (i : ℕ). i < e.key) (high_is q) l) in
      let y : Run = link_child (make_room k p s).page e.val e.key (make_room k p s).run in
      let d : direct k p s ≡ record { run = y; parent = (make_room k p s).page; child = covering k e.val y.pages } = rw (← f, z) in
      let w : Shows n m wp' wl' u y = subst (λ (b : ℕ). Shows n m wp' wl' u (link_child b e.val e.key (make_room k p s).run)) ep g in
      subst (ShowsPair n m wp' wl' (record { run = u; parent = a.page; child = i })) (sym d) (record { run = w; parent = ep; child = j y w })

-- ---- the root is raised

module _ {n m : ℕ} {wp wl : List ℕ} {t : run.Run} {s : Run} (x : program.Page) (q : Reads x (at s.pages 1)) where
  pub raise_stays : Shows n m wp wl t s → x.right ≡ 0 → Shows n m wp wl t (raise_root s)
  unfolding raise_root raise_by
  raise_stays h r = subst (Shows n m wp wl t) (sym (rw (eq_true _ _ (sym (right_is q) ∙ r)))) h

-- ---- going down

-- Where a descent of l₀ levels has come to, with l more to go.
abbrev pub Down : (n m : ℕ) (wp₀ wl₀ wp wl : List ℕ) (t₀ t : run.Run) (k l₀ p₀ l p : ℕ) → Type 0
Down n m wp₀ wl₀ wp wl t₀ t k l₀ p₀ l p = (s : Run) → Shows n m wp₀ wl₀ t₀ s → (u : Run) × (Shows n m wp wl t u × (descend_add l k p u ≡ descend_add l₀ k p₀ s))

pub down_start : {n m : ℕ} {wp wl : List ℕ} {t : run.Run} (k l₀ p l : ℕ) → l ≡ l₀ → Down n m wp wl wp wl t t k l₀ p l p
down_start k l₀ p l e s h = (s, (h, ap (λ (i : ℕ). descend_add i k p s) e))

module _ {n m : ℕ} {wp₀ wl₀ wp wl : List ℕ} {t₀ t : run.Run} (k l₀ p₀ p : ℕ) where
  pub down_step : {wp' wl' : List ℕ} (l l' : ℕ) (d : two.Pair) → l ≡ suc l' → Down n m wp₀ wl₀ wp wl t₀ t k l₀ p₀ l p
      → ((s : Run) → Shows n m wp wl t s → ShowsPair n m wp' wl' d (direct k p s)) → Down n m wp₀ wl₀ wp' wl' t₀ d.run k l₀ p₀ l' d.child
  unfolding descend_add
  down_step l l' d e down f s h =
      let (u, (g, q)) = down s h in
      let w = f u g in
      ((direct k p u).run, (w.run, ap (λ (c : ℕ). descend_add l' k c (direct k p u).run) w.child ∙ sym (ap (λ (i : ℕ). descend_add i k p u) e) ∙ q))

  pub down_end : (l : ℕ) (s : Run) → l ≡ 0 → l₀ ≡ (at s.pages 1).level → p₀ ≡ 1 → Down n m wp₀ wl₀ wp wl t₀ t k l₀ p₀ l p → Shows n m wp₀ wl₀ t₀ s
      → ShowsAt n m wp wl (record { run = t; page = p }) (descend_add (at s.pages 1).level k 1 s)
  unfolding descend_add
  down_end l s z e one down h =
      let (u, (g, q)) = down s h in
      let r : record { run = u; page = p } ≡ descend_add (at s.pages 1).level k 1 s
      = sym (ap (λ (i : ℕ). descend_add i k p u) z) ∙ q ∙ ap (λ (i : ℕ). descend_add i k p₀ s) e ∙ ap (λ (i : ℕ). descend_add (at s.pages 1).level k i s) one in
      subst (ShowsAt n m wp wl (record { run = t; page = p })) r (record { run = g; page = refl })

-- Down from the root, and room made in the leaf.
pub added_at : {n m : ℕ} {wp wl : List ℕ} (k : ℕ) (s : Run) (d b : here.At) → d.page ≡ (descend_add (at (raise_root s).pages 1).level k 1 (raise_root s)).page
    → ShowsAt n m wp wl b (make_room k d.page (descend_add (at (raise_root s).pages 1).level k 1 (raise_root s)).run) → ShowsAt n m wp wl b (find_add k s)
unfolding find_add
added_at {n} {m} {wp} {wl} k s d b e h =
    subst (λ (i : ℕ). ShowsAt n m wp wl b (make_room k i (descend_add (at (raise_root s).pages 1).level k 1 (raise_root s)).run)) e h

pub put_at : {n m : ℕ} {wp wl : List ℕ} {u : run.Run} (kind : Kind) (batch previous k v : ℕ) (s : Run) (p : ℕ) (r : Rec) → p ≡ (find_add k s).page
    → r ≡ data_row kind batch previous p k v → Shows n m wp wl u (emit r (find_add k s).run) → Shows n m wp wl u (put_record kind batch previous k v s)
unfolding put_record
put_at {n} {m} {wp} {wl} {u} kind batch previous k v s p r e g h =
    subst (λ (z : Rec). Shows n m wp wl u (emit z (find_add k s).run)) (g ∙ ap (λ (i : ℕ). data_row kind batch previous i k v) e) h
