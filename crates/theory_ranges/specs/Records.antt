-- EVERY STEP'S RECORD FITS its fields where the pages fit theirs: page numbers, levels, keys and entries come from the tree.
use Rattle.std.specs.Prelude.{ℕ, ◌≤◌, ◌<◌, ◌^◌, ◌≡◌, refl, true, length, leb}
use Rattle.std.proofs.Common.{ap, ◌∙◌, subst, arith, length-append, lit<}
use mathlib.Core.List.{List, [], ◌∷◌, ◌++◌}
use Rattle.def_base.specs.Tests.{Case, yes!, no!, case}
use Rattle.def_layout.specs.declared.Entry.{Entry}
use Rattle.def_layout.specs.Entries.{top}
use Rattle.def_layout.specs.Pages.{Page, at, map_bits}
use Rattle.def_layout.specs.Records.{Rec, Kind, begin, insert, delete, undo_insert, undo_delete, commit, abort_mark, end, batch_row, data_row}
use Rattle.def_model.specs.Change.{first_key, kept}
use Rattle.def_model.specs.TreeRules.{Node, first_page}
use Rattle.theory_tree.specs.Shape.Chains.{IsNode}
use Rattle.theory_tree.specs.Shape.Trees.{page_at}
use Rattle.theory_tree.specs.Change.LevelChanges.{Splits}
use Rattle.theory_tree.specs.Change.Merge.{merged}
use Rattle.theory_tree.specs.Change.Share.{shared_left, shared_right}
use Rattle.theory_tree.specs.Shape.Height.{level_below}
use Rattle.theory_tree.specs.Shape.Rules.{Rules}
use Rattle.theory_tree.specs.Step.Steps.{Adding, by_insert, by_undo_delete, Removing, by_delete, by_undo_insert, Noting, by_begin, by_commit, by_mark, by_end, Step, splits, links, unlinks, merges, shares, raises, lowers, puts, cuts, notes}
use Rattle.theory_tree.specs.Step.Names.{under_pages}
use Rattle.theory_pages.specs.Rows.{Begins}
use Rattle.law_bytes.specs.EntryBytes.{EntryFits}
use Rattle.law_bytes.specs.RecordBytes.{Fits as RecordFits}
use Rattle.law_widths.specs.Each.{Each, each_append, each_cut}
use Rattle.law_widths.specs.Fine.{Fine, fine_at, at_fine, fine_look}
use Rattle.theory_ranges.specs.Pages.{AllFit, node_fits}
use Rattle.theory_ranges.specs.Batches.{of_batch, Says}

-- The numbers of a node of the tree, and of its right link.
pub record Held (n : Node) (next : ℕ) : Type 0 where
  pub page : n.page < 1024
  pub high : n.high < 2 ^ 32
  pub items : Fine n.items
  pub count : length n.items ≤ 14
  pub link : next < 1024

pub held : (pages : List Page) → length pages ≤ map_bits → AllFit pages → (l next : ℕ) (n : Node)
    → (0 < n.page) × (n.page < length pages) × IsNode (at pages n.page) l next n → Held n next
held pages few fit l next n h =
    let i = h.2 in
    let f = fit n.page h.1 in
    let a = h.1 in
    let hi = f.high in
    let hr = f.right in
    let e = i.high in
    let g = i.right in
    let b = node_fits l (at pages n.page) i.kind f in
    record {
      page = omega arith;
      high = omega arith;
      items = subst Fine i.items (at_fine (at pages n.page).entries b.entry);
      count = subst (λ es. length es ≤ 14) i.items b.count;
      link = omega arith;
    }

-- A record's numbers, without its entries'.
record Numbers (r : Rec) : Type 0 where
  level : r.level < 16
  batch : r.batch < 2 ^ 32
  previous : r.previous < 2 ^ 32
  pageA : r.pageA < 1024
  pageB : r.pageB < 1024
  pageC : r.pageC < 1024
  key : r.key < 2 ^ 32
  second : r.second < 2 ^ 32
  right : r.right < 1024
  count : length r.entries ≤ 14

fits_of : (m : ℕ) (r : Rec) → m < 2 ^ 32 → Numbers r → Fine r.entries → RecordFits m r
fits_of m r l n e =
    record {
      own = l;
      level = n.level;
      batch = n.batch;
      previous = n.previous;
      pageA = n.pageA;
      pageB = n.pageB;
      pageC = n.pageC;
      key = n.key;
      second = n.second;
      right = n.right;
      count = n.count;
      entry = fine_at r.entries e;
    }

-- What a redistribution moves.
moved_fine : (q r : Node) (key : ℕ) (moved : List Entry) → Splits (merged q r) (shared_left q key moved) (shared_right r key moved)
    → length (shared_left q key moved).items ≤ 14 → length (shared_right r key moved).items ≤ 14 → Fine q.items → Fine r.items → Fine moved × (length moved ≤ 14)
moved_fine q r key moved s l₁ l₂ f g = go (case (leb (first_key moved) key))
  where
    both : Fine (shared_left q key moved).items × Fine (shared_right r key moved).items
    both = each_cut EntryFits (shared_left q key moved).items (shared_right r key moved).items (subst Fine s.same_items (each_append EntryFits q.items r.items f g))

    go : Case (leb (first_key moved) key) → Fine moved × (length moved ≤ 14)
    go (yes! t) =
        let w : (shared_left q key moved).items ≡ q.items ++ moved = rw t refl in
        let n = ap length w ∙ length-append q.items moved in
        ((each_cut EntryFits q.items moved (subst Fine w both.0)).1, omega arith)
    go (no! t) =
        let w : (shared_right r key moved).items ≡ moved ++ r.items = rw t refl in
        let n = ap length w ∙ length-append moved r.items in
        ((each_cut EntryFits moved r.items (subst Fine w both.1)).0, omega arith)

module _ (m : ℕ) (low : m < 2 ^ 32) (pages : List Page) (few : length pages ≤ map_bits) (fit : AllFit pages) where
  -- A node of the tree that stands at a cut, and two neighbours under a level.
  here : (ups : List (List Node)) (xs : List Node) (n : Node) (ys : List Node) (downs : List (List Node)) → Rules pages (ups ++ (xs ++ n ∷ ys) ∷ downs) → Held n (first_page ys 0)
  here ups xs n ys downs k = held pages few fit (length downs) (first_page ys 0) n (page_at pages ups xs n ys downs k.levels)

  below : (ups : List (List Node)) (u bs : List Node) (q r : Node) (cs : List Node) (downs : List (List Node)) → Rules pages (ups ++ u ∷ (bs ++ q ∷ r ∷ cs) ∷ downs) → Held q r.page × Held r (first_page cs 0)
  below ups u bs q r cs downs k =
      let (a, b) = under_pages pages ups u bs q r cs downs k.levels in
      (held pages few fit (length downs) r.page q a, held pages few fit (length downs) (first_page cs 0) r b)

  -- A record of a batch in a leaf, and one that changes no page.
  data_fits : (kind : Kind) (batch previous a k v : ℕ) → batch ≤ m → previous ≤ m → a < 1024 → k < 2 ^ 32 → v < 2 ^ 32 → RecordFits m (data_row kind batch previous a k v)
  unfolding Each
  data_fits kind batch previous a k v h₁ h₂ h₃ h₄ h₅ = fits_of m (data_row kind batch previous a k v) low (omega arith) tt

  note_fits : (kind : Kind) (batch previous : ℕ) → batch ≤ m → previous ≤ m → RecordFits m (batch_row kind batch previous)
  unfolding Each
  note_fits kind batch previous h₁ h₂ = fits_of m (batch_row kind batch previous) low (omega arith) tt

  add_fits : (kind : Kind) (batch previous a k v : ℕ) → Adding kind → a < 1024 → k < 2 ^ 32 → (kind ≡ insert → v ≤ top) → (of_batch kind ≡ true → Says m kind (data_row kind batch previous a k v))
      → RecordFits m (data_row kind batch previous a k v)
  add_fits kind batch previous a k v by_insert h i s t = let w = t refl in let z = s refl in data_fits insert batch previous a k v w.batch_within w.previous_within h i (omega arith)
  add_fits kind batch previous a k v by_undo_delete h i s t =
      let w = t refl in
      let z = w.value_small refl in
      data_fits undo_delete batch previous a k v w.batch_within w.previous_within h i (omega arith)

  cut_fits : (kind : Kind) (batch previous a k v u : ℕ) → Removing kind v u → a < 1024 → k < 2 ^ 32 → u < 2 ^ 32 → (of_batch kind ≡ true → Says m kind (data_row kind batch previous a k v))
      → RecordFits m (data_row kind batch previous a k v)
  cut_fits kind batch previous a k v u (by_delete {v = w}) h i j t = let s = t refl in data_fits delete batch previous a k w s.batch_within s.previous_within h i j
  cut_fits kind batch previous a k v u by_undo_insert h i j t = let s = t refl in data_fits undo_insert batch previous a k 0 s.batch_within s.previous_within h i (lit< tt)

  noted_fits : (kind : Kind) (batch previous : ℕ) → Noting kind → Begins m (batch_row kind batch previous) → (of_batch kind ≡ true → Says m kind (batch_row kind batch previous)) → RecordFits m (batch_row kind batch previous)
  noted_fits kind batch previous by_begin b t = let (x, y) = b refl in note_fits begin batch previous (omega arith) (omega arith)
  noted_fits kind batch previous by_commit b t = let s = t refl in note_fits commit batch previous s.batch_within s.previous_within
  noted_fits kind batch previous by_mark b t = let s = t refl in note_fits abort_mark batch previous s.batch_within s.previous_within
  noted_fits kind batch previous by_end b t = let s = t refl in note_fits end batch previous s.batch_within s.previous_within

  pub step_fits : (ls ls' : List (List Node)) (r : Rec) → Step pages ls r ls' → Rules pages ls → Begins m r → (r.kind ≡ insert → r.second ≤ top) → (of_batch r.kind ≡ true → Says m r.kind r) → RecordFits m r
  unfolding Each
  step_fits ls ls' r (splits ups xs n ys downs b key moved s full seven d g pos) k bg sv t =
      let h = here ups xs n ys downs k in
      let l = level_below pages ups (xs ++ n ∷ ys) downs k few in
      let x = s.lower_high in
      let y = g.inside in
      fits_of m r low (omega arith) (each_cut EntryFits (kept moved n.items) moved (subst Fine s.same_items h.items)).1
  step_fits ls ls' r (links ups xs p ys bs q u cs downs pre e post old room v l hh m₁ m₂) k bg sv t =
      let h = here ups xs p ys ((bs ++ q ∷ u ∷ cs) ∷ downs) k in
      let (a, b) = below ups (xs ++ p ∷ ys) bs q u cs downs k in
      fits_of m r low (omega arith) tt
  step_fits ls ls' r (unlinks ups xs p ys bs q u cs downs pre e₁ e₂ post old v₁ k₁ v₂ k₂ qr m₁ m₂ fit₁) k bg sv t =
      let h = here ups xs p ys ((bs ++ q ∷ u ∷ cs) ∷ downs) k in
      let (a, b) = below ups (xs ++ p ∷ ys) bs q u cs downs k in
      fits_of m r low (omega arith) tt
  step_fits ls ls' r (merges ups u bs q p cs downs es e fs w v hh m₁ m₂ room) k bg sv t =
      let (a, b) = below ups u bs q p cs downs k in
      fits_of m r low (omega arith) b.items
  step_fits ls ls' r (shares ups u bs q p cs downs es e fs key moved w v hh m₁ m₂ s z₁ z₂) k bg sv t =
      let (a, b) = below ups u bs q p cs downs k in
      let (f, c) = moved_fine q p key moved s z₁.0 z₂.0 a.items b.items in
      let x = s.lower_high in
      fits_of m r low (omega arith) f
  step_fits ls ls' r (raises a s downs c g pos) k bg sv t =
      let h = here [] [] a (s ∷ []) downs k in
      let i = here [] (a ∷ []) s [] downs k in
      let l = level_below pages [] (a ∷ s ∷ []) downs k few in
      let y = g.inside in
      fits_of m r low (omega arith) h.items
  step_fits ls ls' r (lowers n q downs e root only is ends) k bg sv t =
      let h = here ((n ∷ []) ∷ []) [] q [] downs k in
      let l = level_below pages ((n ∷ []) ∷ []) (q ∷ []) downs k few in
      fits_of m r low (omega arith) h.items
  step_fits ls ls' r (puts kind batch previous key v ups xs n ys a low₁ within absent room) k bg sv t =
      let h = here ups xs n ys [] k in
      let hi = h.high in
      add_fits kind batch previous n.page key v a h.page (omega arith) sv t
  step_fits ls ls' r (cuts kind batch previous key v u ups xs n ys a low₁ within there small) k bg sv t =
      let h = here ups xs n ys [] k in
      let hi = h.high in
      cut_fits kind batch previous n.page key v u a h.page (omega arith) (fine_look key u n.items there h.items) t
  step_fits ls ls' r (notes kind batch previous q) k bg sv t = noted_fits kind batch previous q bg t
