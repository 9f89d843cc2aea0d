-- EVERY STEP KEEPS THE RULES.
use Rattle.std.specs.Prelude.{ℕ, suc, ◌+◌, ◌≤◌, ◌<◌, ◌≡◌, ◌≢◌}
use Rattle.std.proofs.Math.Path.{refl, sym, ap, subst}
use Rattle.std.proofs.Common.{◌∙◌}
use Rattle.std.proofs.Math.Option.{none, some}
use Rattle.std.proofs.Math.Bool.{true, false}
use mathlib.Core.List.{List, [], ◌∷◌, ◌++◌, append_assoc}
use native.Mathlib.Omega.{arith}
use Rattle.std.proofs.Math.ListN.{length, get_or, length-append}
use Rattle.std.proofs.Math.Dec.{eqb-suc-zero}
use Rattle.def_layout.specs.declared.Entry.{Entry}
use Rattle.def_layout.specs.Entries.{top, entry, look, insert_sorted, remove_key}
use Rattle.def_layout.specs.Sizes.{room}
use Rattle.def_layout.specs.Pages.{Page, at, map_bits}
use Rattle.def_layout.specs.Records.{Kind, Rec, data_row, split_row, link_row, unlink_row, merge_row, redistribute_row, raise_row, lower_row}
use Rattle.def_model.specs.Change.{kept}
use Rattle.def_model.specs.Redo.{redo_record}
use Rattle.def_model.specs.TreeRules.{Node, flat, first_page, least, counted, root_least}
use Rattle.theory_redo.specs.Area.{length_redo_record}
use Rattle.theory_tree.specs.Order.Sorted.{insert_length, remove_length}
use Rattle.theory_tree.specs.Shape.Levels.{Match, from_of}
use Rattle.theory_tree.specs.Change.LevelChanges.{Splits, Merges, merge_flat, merge_match, share_flat, share_match}
use Rattle.theory_tree.specs.Shape.Chains.{Chained, All, once_in_level}
use Rattle.theory_tree.specs.Shape.Trees.{is_bottom, Levels, Joined, Every, levels_at, every_cut, all_cut, all_mid, all_join, Direct, above_away, nonzero, page_at}
use Rattle.theory_tree.specs.Change.Roles.{link_role_none, unlink_role_none, redistribute_role_none, split_map, merge_map, raise_map, lower_map}
use Rattle.theory_tree.specs.Change.Split.{left_half, right_half, split_tree}
use Rattle.theory_tree.specs.Change.Link.{link_tree}
use Rattle.theory_tree.specs.Change.Edit.{with_items, edit_tree}
use Rattle.theory_tree.specs.Change.Unlink.{unlink_tree}
use Rattle.theory_tree.specs.Change.Merge.{merged, merge_levels}
use Rattle.theory_tree.specs.Change.Share.{shared_left, shared_right, share_levels}
use Rattle.theory_tree.specs.Change.Raise.{raise_tree}
use Rattle.theory_tree.specs.Change.Lower.{lower_tree}
use Rattle.theory_tree.specs.Shape.Marks.{counted_more, Gives, free_unused}
use Rattle.theory_tree.specs.Shape.Sizes.{Sized, SizedLevel, Sizes, every_swap, sizes_at, sizes_swap, sizes_below, sized_more, least_one}
use Rattle.theory_tree.specs.Shape.Rules.{Marked, every_map, mapped_same, mapped_take, mapped_free, Rooted, Rules, rooted_swap, first_mid, pages_pos}
use Rattle.theory_tree.specs.Shape.Height.{level_below}
use Rattle.theory_tree.specs.Order.Covers.{covers_at, insert_chain, remove_chain}
use Rattle.theory_tree.specs.Step.Steps.{Adding, Removing, linked, unlinked, old_root, new_root, lowered, Step, splits, links, unlinks, merges, shares, raises, lowers, puts, cuts, notes}
use Rattle.theory_tree.specs.Step.Parts.{Lows, map_set, map_same, counted_same, length_mid, length_two, length_pair, joined_under, under, sizes_under, rooted_under, counted_under, counted_under_more, every_under, sized_split, every_join, add_role_a, add_role_none, add_effect, cut_role_a, cut_role_none, cut_effect, note_same}

module _ (num : ℕ) (pages : List Page) (few : length pages ≤ map_bits) (lows : Lows num pages) where
  -- a level's number has four bits
  deep : (ups : List (List Node)) (ns : List Node) (downs : List (List Node)) → Rules pages (ups ++ ns ∷ downs) → length downs < 16
  deep ups ns downs k = let a = level_below pages ups ns downs k few in omega arith

  -- a free page is outside the tree
  out : (ls : List (List Node)) (b : ℕ) → Rules pages ls → Gives (length pages) (at pages 0).marks b → Every (λ m. m.page ≢ b) ls
  out ls b k g = every_map (Marked pages) (λ m. m.page ≢ b) (λ m u. free_unused (at pages 0).marks b m.page g.is_free u) ls k.mapped.marked

  split_rules : (ups : List (List Node)) (xs : List Node) (n : Node) (ys : List Node) (downs : List (List Node)) (b key : ℕ) (moved : List Entry)
      → Splits n (left_half n key moved) (right_half n b moved) → length n.items ≡ room → length moved ≡ 7 → Direct ups xs n ys
      → Gives (length pages) (at pages 0).marks b → 0 < b
      → Rules pages (ups ++ (xs ++ n ∷ ys) ∷ downs)
      → Rules (redo_record num (split_row (length downs) n.page b key n.high (first_page ys 0) moved) pages)
      (ups ++ (xs ++ left_half n key moved ∷ right_half n b moved ∷ ys) ∷ downs)
  unfolding All
  split_rules ups xs n ys downs b key moved s full seven d g pos k =
      let row = split_row (length downs) n.page b key n.high (first_page ys 0) moved in
      let w : room ≡ length (kept moved n.items) + 7 = sym full ∙ ap length s.same_items ∙ length-append (kept moved n.items) moved ∙ ap (λ z. length (kept moved n.items) + z) seven in
      let (lv, jn) = split_tree num pages lows ups xs n ys downs (deep ups _ downs k) b key moved s (omega arith) (omega arith) g.inside pos (out _ b k g) d k.levels k.joined in
      let (p₁, p₂, p₃) = page_at pages ups xs n ys downs k.levels in
      record {
        levels = lv;
        joined = jn;
        sizes = sizes_swap ups (xs ++ n ∷ ys) _ downs (sized_split ups (length downs) xs n _ _ ys d (omega arith, omega arith) (omega arith, omega arith) (sizes_at ups (xs ++ n ∷ ys) downs k.sizes)) k.sizes;
        rooted = rooted_swap ups (xs ++ n ∷ ys) _ downs (first_mid xs n (left_half n key moved) ys (right_half n b moved ∷ ys) 0 refl) k.rooted;
        mapped = mapped_take pages _ (ups ++ (xs ++ n ∷ ys) ∷ downs) _ b (map_set num row pages lows (omega arith) (split_map _ _ _ _ _ _ _ p₁ pos)) (length_redo_record num row pages) g
            (counted_more ups (xs ++ n ∷ ys) _ downs (length_two xs _ _ n ys))
            (λ P e pb. every_swap (λ m. P m.page) ups (xs ++ n ∷ ys) _ downs (λ a. let (x, y, z) = all_cut (λ m. P m.page) xs n ys a in all_join (λ m. P m.page) xs _ x (y, (pb, z))) e) k.mapped;
      }

  link_rules : (ups : List (List Node)) (xs : List Node) (p : Node) (ys bs : List Node) (q r : Node) (cs : List Node) (downs : List (List Node))
      (pre : List Entry) (e : Entry) (post : List Entry)
      → p.items ≡ pre ++ e ∷ post → length p.items < room → e.val ≡ q.page → q.high < e.key → r.high ≡ e.key → Match (flat xs ++ pre) bs
      → Match (post ++ flat ys) cs
      → Rules pages (ups ++ (xs ++ p ∷ ys) ∷ (bs ++ q ∷ r ∷ cs) ∷ downs)
      → Rules (redo_record num (link_row p.page q.page r.page q.high e.key) pages)
      (ups ++ (xs ++ linked p q r e pre post ∷ ys) ∷ (bs ++ q ∷ r ∷ cs) ∷ downs)
  link_rules ups xs p ys bs q r cs downs pre e post old space v l h m₁ m₂ k =
      let row = link_row p.page q.page r.page q.high e.key in
      let new = linked p q r e pre post in
      let a : length p.items ≡ length pre + suc (length post) = ap length old ∙ length-append pre (e ∷ post) in
      let b : length new.items ≡ length pre + suc (suc (length post)) = length-append pre (entry q.high q.page ∷ entry e.key r.page ∷ post) in
      let (lv, jn) = link_tree num pages lows ups xs p ys bs q r cs downs (deep ups _ ((bs ++ q ∷ r ∷ cs) ∷ downs) k) pre e post old (omega arith)
      (record { is_q = v; first_val = refl; first_key = refl; second_val = refl; second_key = refl; indirect = l; r_high = h }) m₁ m₂ (nonzero pages _ k.levels) k.levels k.joined in
      let (p₁, p₂, p₃) = page_at pages ups xs p ys ((bs ++ q ∷ r ∷ cs) ∷ downs) k.levels in
      record {
        levels = lv;
        joined = jn;
        sizes = sizes_swap ups (xs ++ p ∷ ys) _ _ (sized_more ups _ xs p new ys (omega arith) (omega arith) (sizes_at ups (xs ++ p ∷ ys) _ k.sizes)) k.sizes;
        rooted = rooted_swap ups (xs ++ p ∷ ys) _ _ (first_mid xs p new ys ys 0 refl) k.rooted;
        mapped = mapped_same pages _ (ups ++ (xs ++ p ∷ ys) ∷ (bs ++ q ∷ r ∷ cs) ∷ downs) _ (map_same num row pages (omega arith) (link_role_none _ _ _ _ _ 0 (omega arith))) (length_redo_record num row pages)
            (counted_same ups (xs ++ p ∷ ys) _ _ (length_mid xs new p ys)) (every_swap (Marked pages) ups (xs ++ p ∷ ys) _ _ (all_mid (Marked pages) xs p new ys (λ z. z))) k.mapped;
      }

  unlink_rules : (ups : List (List Node)) (xs : List Node) (p : Node) (ys bs : List Node) (q r : Node) (cs : List Node) (downs : List (List Node))
      (pre : List Entry) (e₁ e₂ : Entry) (post : List Entry)
      → p.items ≡ pre ++ e₁ ∷ e₂ ∷ post → e₁.key ≡ q.high → e₂.key ≡ r.high → q.high < r.high
      → Match (flat xs ++ pre) bs → Match (post ++ flat ys) cs → SizedLevel ups (suc (length downs)) (xs ++ unlinked p q r pre post ∷ ys)
      → Rules pages (ups ++ (xs ++ p ∷ ys) ∷ (bs ++ q ∷ r ∷ cs) ∷ downs)
      → Rules (redo_record num (unlink_row p.page q.page r.page q.high r.high) pages)
      (ups ++ (xs ++ unlinked p q r pre post ∷ ys) ∷ (bs ++ q ∷ r ∷ cs) ∷ downs)
  unlink_rules ups xs p ys bs q r cs downs pre e₁ e₂ post old k₁ k₂ qr m₁ m₂ fit k =
      let row = unlink_row p.page q.page r.page q.high r.high in
      let new = unlinked p q r pre post in
      let (x₁, sm, x₂) = all_cut (λ z. length z.items ≤ room) xs p ys (levels_at pages ups (xs ++ p ∷ ys) ((bs ++ q ∷ r ∷ cs) ∷ downs) k.levels).small in
      let (lv, jn) = unlink_tree num pages lows ups xs p ys bs q r cs downs (deep ups _ ((bs ++ q ∷ r ∷ cs) ∷ downs) k) pre e₁ e₂ post old (omega arith) k₁ k₂ qr m₁ m₂ k.levels k.joined in
      let (p₁, p₂, p₃) = page_at pages ups xs p ys ((bs ++ q ∷ r ∷ cs) ∷ downs) k.levels in
      record {
        levels = lv;
        joined = jn;
        sizes = sizes_swap ups (xs ++ p ∷ ys) _ _ fit k.sizes;
        rooted = rooted_swap ups (xs ++ p ∷ ys) _ _ (first_mid xs p new ys ys 0 refl) k.rooted;
        mapped = mapped_same pages _ (ups ++ (xs ++ p ∷ ys) ∷ (bs ++ q ∷ r ∷ cs) ∷ downs) _ (map_same num row pages (omega arith) (unlink_role_none _ _ _ _ _ 0 (omega arith))) (length_redo_record num row pages)
            (counted_same ups (xs ++ p ∷ ys) _ _ (length_mid xs new p ys)) (every_swap (Marked pages) ups (xs ++ p ∷ ys) _ _ (all_mid (Marked pages) xs p new ys (λ z. z))) k.mapped;
      }

  merge_rules : (ups : List (List Node)) (u bs : List Node) (q r : Node) (cs : List Node) (downs : List (List Node)) (es : List Entry) (e : Entry)
      (fs : List Entry)
      → flat u ≡ es ++ e ∷ fs → e.val ≡ q.page → r.high ≡ e.key → Match es bs → Match fs cs → length (q.items ++ r.items) ≤ room
      → Rules pages (ups ++ u ∷ (bs ++ q ∷ r ∷ cs) ∷ downs)
      → Rules (redo_record num (merge_row q.page r.page r.high (first_page cs 0) r.items) pages)
      (ups ++ u ∷ (bs ++ merged q r ∷ cs) ∷ downs)
  unfolding All Chained
  merge_rules ups u bs q r cs downs es e fs w v h m₁ m₂ space k =
      let row = merge_row q.page r.page r.high (first_page cs 0) r.items in
      let old = bs ++ q ∷ r ∷ cs in
      let new = bs ++ merged q r ∷ cs in
      let mg : Merges q r (merged q r) = record { same_page = refl; same_items = refl; same_high = refl } in
      let lv = subst (Levels pages) (sym (under ups u old downs)) k.levels in
      let lv' = merge_levels num pages lows (ups ++ u ∷ []) bs q r cs downs (let d = deep ups u (old ∷ downs) k in omega arith) space lv in
      let (q₁, q₂, q₃) = page_at pages (ups ++ u ∷ []) bs q (r ∷ cs) downs lv in
      let (r₁, r₂, r₃) = page_at pages (ups ++ u ∷ []) (bs ++ q ∷ []) r cs downs (subst (λ z. Levels pages ((ups ++ u ∷ []) ++ z ∷ downs)) (sym (append_assoc bs (q ∷ []) (r ∷ cs))) lv) in
      let c = levels_at pages (ups ++ u ∷ []) old downs lv in
      let a : (bs ++ q ∷ []) ++ r ∷ cs ≡ old = append_assoc bs (q ∷ []) (r ∷ cs) in
      let (vx, vy) = once_in_level pages (length downs) (is_bottom (length downs)) 0 (bs ++ q ∷ []) r cs 0 (suc top) (rw a c.chained) (rw a c.chain) in
      let (ux, uq, un) = all_cut (λ z. z.page ≢ r.page) bs q [] vx in
      let (ou, od) = above_away pages r.page (ups ++ u ∷ []) old downs r₃.level lv in
      let (sx, sq, sr) = all_cut (Sized least) bs q (r ∷ cs) (sizes_below ups u old downs k.sizes) in
      let lq = length-append q.items r.items in
      let sq1 = sq.1 in
      record {
        levels = subst (Levels (redo_record num row pages)) (under ups u new downs) lv';
        joined = joined_under ups u old new downs (rw w (merge_match q r (merged q r) mg e v h m₁ m₂)) (merge_flat q r (merged q r) mg bs cs) k.joined;
        sizes = sizes_under ups u old new downs (all_join (Sized least) bs (merged q r ∷ cs) sx ((space, omega arith), sr.1)) k.sizes;
        rooted = rooted_under ups u old new downs k.rooted;
        mapped = mapped_free pages _ (ups ++ u ∷ old ∷ downs) _ r.page (map_set num row pages lows (omega arith) (merge_map _ _ _ _ _ q₁ r₁)) (length_redo_record num row pages) r₂ r₁
            (all_cut (Marked pages) bs q (r ∷ cs) (every_cut (Marked pages) (ups ++ u ∷ []) old downs (subst (Every (Marked pages)) (sym (under ups u old downs)) k.mapped.marked)).1).2.0
            (sym (counted_under_more ups u new old downs (length_two bs q r (merged q r) cs)))
            (subst (Every (λ z. z.page ≢ r.page)) (under ups u new downs) (every_join (λ z. z.page ≢ r.page) (ups ++ u ∷ []) new downs ou (all_join (λ z. z.page ≢ r.page) bs (merged q r ∷ cs) ux (uq, vy)) od))
            (every_under (Marked pages) ups u old new downs (λ t. let (x, y, z) = all_cut (Marked pages) bs q (r ∷ cs) t in all_join (Marked pages) bs (merged q r ∷ cs) x (y, z.1))) k.mapped;
      }

  share_rules : (ups : List (List Node)) (u bs : List Node) (q r : Node) (cs : List Node) (downs : List (List Node)) (es : List Entry) (e : Entry)
      (fs : List Entry) (key : ℕ) (moved : List Entry)
      → flat u ≡ es ++ e ∷ fs → e.val ≡ q.page → r.high ≡ e.key → Match es bs → Match fs cs
      → Splits (merged q r) (shared_left q key moved) (shared_right r key moved) → Sized least (shared_left q key moved)
      → Sized least (shared_right r key moved)
      → Rules pages (ups ++ u ∷ (bs ++ q ∷ r ∷ cs) ∷ downs)
      → Rules (redo_record num (redistribute_row q.page r.page key moved) pages)
      (ups ++ u ∷ (bs ++ shared_left q key moved ∷ shared_right r key moved ∷ cs) ∷ downs)
  unfolding All Chained
  share_rules ups u bs q r cs downs es e fs key moved w v h m₁ m₂ s z₁ z₂ k =
      let row = redistribute_row q.page r.page key moved in
      let old = bs ++ q ∷ r ∷ cs in
      let new = bs ++ shared_left q key moved ∷ shared_right r key moved ∷ cs in
      let mg : Merges q r (merged q r) = record { same_page = refl; same_items = refl; same_high = refl } in
      let lv = subst (Levels pages) (sym (under ups u old downs)) k.levels in
      let lv' = share_levels num pages lows (ups ++ u ∷ []) bs q r cs downs (let d = deep ups u (old ∷ downs) k in omega arith) key moved s z₁.0 z₂.0 lv in
      let (q₁, q₂, q₃) = page_at pages (ups ++ u ∷ []) bs q (r ∷ cs) downs lv in
      let (r₁, r₂, r₃) = page_at pages (ups ++ u ∷ []) (bs ++ q ∷ []) r cs downs (subst (λ z. Levels pages ((ups ++ u ∷ []) ++ z ∷ downs)) (sym (append_assoc bs (q ∷ []) (r ∷ cs))) lv) in
      let (sx, sq, sr) = all_cut (Sized least) bs q (r ∷ cs) (sizes_below ups u old downs k.sizes) in
      record {
        levels = subst (Levels (redo_record num row pages)) (under ups u new downs) lv';
        joined = joined_under ups u old new downs (rw w (share_match q r (merged q r) _ _ mg s e v h m₁ m₂)) (share_flat q r (merged q r) _ _ mg s bs cs) k.joined;
        sizes = sizes_under ups u old new downs (all_join (Sized least) bs _ sx (z₁, (z₂, sr.1))) k.sizes;
        rooted = rooted_under ups u old new downs k.rooted;
        mapped = mapped_same pages _ (ups ++ u ∷ old ∷ downs) _ (map_same num row pages (omega arith) (redistribute_role_none _ _ _ _ 0 (omega arith) (omega arith))) (length_redo_record num row pages)
            (counted_under ups u old new downs (length_pair bs _ _ q r cs))
            (every_under (Marked pages) ups u old new downs (λ t. let (x, y, z) = all_cut (Marked pages) bs q (r ∷ cs) t in all_join (Marked pages) bs _ x (y, z))) k.mapped;
      }

  raise_rules : (r s : Node) (downs : List (List Node)) (c : ℕ) → Gives (length pages) (at pages 0).marks c → 0 < c
      → Rules pages ((r ∷ s ∷ []) ∷ downs)
      → Rules (redo_record num (raise_row (length downs) s.page c r.high r.items) pages)
      ((new_root r s c ∷ []) ∷ (old_root r c ∷ s ∷ []) ∷ downs)
  unfolding All Every Sizes SizedLevel Rooted first_page root_least counted
  raise_rules r s downs c g pos k =
      let row = raise_row (length downs) s.page c r.high r.items in
      let e : r.page ≡ 1 = k.rooted in
      let (lv, jn) = raise_tree num pages lows r s downs (let a = level_below pages [] (r ∷ s ∷ []) downs k few in omega arith) c e g.inside pos (out _ c k g) k.levels k.joined in
      let z = pages_pos pages _ k in
      record {
        levels = lv;
        joined = jn;
        sizes = (((omega arith, rw (eqb-suc-zero (length downs)) (omega arith)), tt), ((k.sizes.0.0, (k.sizes.0.1.0, tt)), k.sizes.1));
        rooted = refl;
        mapped = mapped_take pages _ ((r ∷ s ∷ []) ∷ downs) ((new_root r s c ∷ []) ∷ (old_root r c ∷ s ∷ []) ∷ downs) c (map_set num row pages lows (omega arith) (raise_map _ _ _ _ _ pos)) (length_redo_record num row pages) g (omega arith)
            (λ P t pb. ((subst P e t.0.0, tt), ((pb, (t.0.1.0, tt)), t.1))) k.mapped;
      }

  lower_rules : (n q : Node) (downs : List (List Node)) (e : Entry) → n.page ≡ 1 → n.items ≡ e ∷ [] → e.val ≡ q.page → q.high ≡ e.key
      → Rules pages ((n ∷ []) ∷ (q ∷ []) ∷ downs)
      → Rules (redo_record num (lower_row (length downs) q.page q.items) pages) ((lowered n q ∷ []) ∷ downs)
  unfolding All Every Sizes SizedLevel Rooted first_page counted Levels Chained
  lower_rules n q downs e root only is ends k =
      let row = lower_row (length downs) q.page q.items in
      let (lv, jn, aw) = lower_tree num pages lows n q downs (deep ((n ∷ []) ∷ []) (q ∷ []) downs k) e root only is ends k.levels k.joined in
      let h = k.levels.1.0.chained in
      let z = pages_pos pages _ k in
      record {
        levels = lv;
        joined = jn;
        sizes = (((k.sizes.1.0.0.0, least_one (length downs) (lowered n q) k.sizes.1.0.0.1), tt), k.sizes.1.1);
        rooted = refl;
        mapped = mapped_free pages _ ((n ∷ []) ∷ (q ∷ []) ∷ downs) ((lowered n q ∷ []) ∷ downs) q.page (map_set num row pages lows (omega arith) (lower_map _ _ _ h.0)) (length_redo_record num row pages) h.1 h.0
            k.mapped.marked.1.0.0 (omega arith) aw (λ t. ((subst (λ p. get_or (at pages 0).marks p false ≡ true) root t.0.0, tt), t.1.1)) k.mapped;
      }

  put_rules : (kind : Kind) (batch previous key v : ℕ) (ups : List (List Node)) (xs : List Node) (n : Node) (ys : List Node)
      → Adding kind → from_of 0 xs ≤ key → key ≤ n.high → look key n.items ≡ none → length n.items < room
      → Rules pages (ups ++ (xs ++ n ∷ ys) ∷ [])
      → Rules (redo_record num (data_row kind batch previous n.page key v) pages)
      (ups ++ (xs ++ with_items (insert_sorted key v n.items) n ∷ ys) ∷ [])
  unfolding Joined
  put_rules kind batch previous key v ups xs n ys a low within absent space k =
      let row = data_row kind batch previous n.page key v in
      let new = with_items (insert_sorted key v n.items) n in
      let c = levels_at pages ups (xs ++ n ∷ ys) [] k.levels in
      let len = insert_length key v n.items in
      let (lv, jn) = edit_tree num pages lows row (insert_sorted key v) ups xs n ys [] (omega arith) (add_role_a kind batch previous n.page key v a) (λ z. add_role_none kind batch previous n.page key v z a)
      (add_effect kind batch previous n.page key v a) (insert_chain key v xs n ys (covers_at true key xs n ys c.chain low within) absent) (omega arith) (nonzero pages _ k.levels) k.levels k.joined tt in
      let (p₁, p₂, p₃) = page_at pages ups xs n ys [] k.levels in
      record {
        levels = lv;
        joined = jn;
        sizes = sizes_swap ups (xs ++ n ∷ ys) _ [] (sized_more ups 0 xs n new ys (omega arith) (omega arith) (sizes_at ups (xs ++ n ∷ ys) [] k.sizes)) k.sizes;
        rooted = rooted_swap ups (xs ++ n ∷ ys) _ [] (first_mid xs n new ys ys 0 refl) k.rooted;
        mapped = mapped_same pages _ (ups ++ (xs ++ n ∷ ys) ∷ []) _ (map_same num row pages (omega arith) (add_role_none kind batch previous n.page key v 0 a (omega arith))) (length_redo_record num row pages)
            (counted_same ups (xs ++ n ∷ ys) _ [] (length_mid xs new n ys)) (every_swap (Marked pages) ups (xs ++ n ∷ ys) _ [] (all_mid (Marked pages) xs n new ys (λ z. z))) k.mapped;
      }

  cut_rules : (kind : Kind) (batch previous key v u : ℕ) (ups : List (List Node)) (xs : List Node) (n : Node) (ys : List Node)
      → Removing kind v u → from_of 0 xs ≤ key → key ≤ n.high → look key n.items ≡ some u
      → SizedLevel ups 0 (xs ++ with_items (remove_key key n.items) n ∷ ys) → Rules pages (ups ++ (xs ++ n ∷ ys) ∷ [])
      → Rules (redo_record num (data_row kind batch previous n.page key v) pages)
      (ups ++ (xs ++ with_items (remove_key key n.items) n ∷ ys) ∷ [])
  unfolding Joined
  cut_rules kind batch previous key v u ups xs n ys a low within there fit k =
      let row = data_row kind batch previous n.page key v in
      let new = with_items (remove_key key n.items) n in
      let c = levels_at pages ups (xs ++ n ∷ ys) [] k.levels in
      let len = remove_length key u n.items there in
      let (x₁, sm, x₂) = all_cut (λ z. length z.items ≤ room) xs n ys c.small in
      let (lv, jn) = edit_tree num pages lows row (remove_key key) ups xs n ys [] (omega arith) (cut_role_a kind batch previous n.page key v u a) (λ z. cut_role_none kind batch previous n.page key v u z a)
      (cut_effect kind batch previous n.page key v u a) (remove_chain key xs n ys (covers_at true key xs n ys c.chain low within)) (omega arith) (nonzero pages _ k.levels) k.levels k.joined tt in
      let (p₁, p₂, p₃) = page_at pages ups xs n ys [] k.levels in
      record {
        levels = lv;
        joined = jn;
        sizes = sizes_swap ups (xs ++ n ∷ ys) _ [] fit k.sizes;
        rooted = rooted_swap ups (xs ++ n ∷ ys) _ [] (first_mid xs n new ys ys 0 refl) k.rooted;
        mapped = mapped_same pages _ (ups ++ (xs ++ n ∷ ys) ∷ []) _ (map_same num row pages (omega arith) (cut_role_none kind batch previous n.page key v u 0 a (omega arith))) (length_redo_record num row pages)
            (counted_same ups (xs ++ n ∷ ys) _ [] (length_mid xs new n ys)) (every_swap (Marked pages) ups (xs ++ n ∷ ys) _ [] (all_mid (Marked pages) xs n new ys (λ z. z))) k.mapped;
      }

  -- EVERY STEP KEEPS THE RULES.
  pub step_rules : (ls ls' : List (List Node)) (r : Rec) → Step pages ls r ls' → Rules pages ls → Rules (redo_record num r pages) ls'
  step_rules ls ls' r (splits ups xs n ys downs b key moved s full seven d g pos) k = split_rules ups xs n ys downs b key moved s full seven d g pos k
  step_rules ls ls' r (links ups xs p ys bs q t cs downs pre e post old space v l h m₁ m₂) k = link_rules ups xs p ys bs q t cs downs pre e post old space v l h m₁ m₂ k
  step_rules ls ls' r (unlinks ups xs p ys bs q t cs downs pre e₁ e₂ post old v₁ k₁ v₂ k₂ qr m₁ m₂ fit) k = unlink_rules ups xs p ys bs q t cs downs pre e₁ e₂ post old k₁ k₂ qr m₁ m₂ fit k
  step_rules ls ls' r (merges ups u bs q t cs downs es e fs w v h m₁ m₂ space) k = merge_rules ups u bs q t cs downs es e fs w v h m₁ m₂ space k
  step_rules ls ls' r (shares ups u bs q t cs downs es e fs key moved w v h m₁ m₂ s z₁ z₂) k = share_rules ups u bs q t cs downs es e fs key moved w v h m₁ m₂ s z₁ z₂ k
  step_rules ls ls' r (raises a s downs c g pos) k = raise_rules a s downs c g pos k
  step_rules ls ls' r (lowers n q downs e root only is ends) k = lower_rules n q downs e root only is ends k
  step_rules ls ls' r (puts kind batch previous key v ups xs n ys a low within absent space) k = put_rules kind batch previous key v ups xs n ys a low within absent space k
  step_rules ls ls' r (cuts kind batch previous key v u ups xs n ys a low within there fit) k = cut_rules kind batch previous key v u ups xs n ys a low within there fit k
  step_rules ls ls' r (notes kind batch previous q) k = subst (λ z. Rules z ls) (sym (note_same num kind batch previous q pages)) k
