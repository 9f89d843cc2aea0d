-- The neighbour that a page is joined with: the next child, or where there is none the one before.
use Rattle.std.specs.Prelude.{ℕ, suc, ◌≤◌, ◌<◌, ◌≡◌, refl, List, [], ◌∷◌, ◌++◌, length, eqb}
use Rattle.std.proofs.Math.Path.{sym, subst}
use Rattle.std.proofs.Common.{ap, ◌∙◌, inl, inr, append_assoc, arith, length-append}
use Rattle.def_base.specs.Tests.{pick, lt_true, lt_false, eq_true, neq_false}
use Rattle.def_layout.specs.declared.Entry.{Entry}
use Rattle.def_layout.specs.Entries.{top, entry}
use Rattle.def_layout.specs.Sizes.{room}
use Rattle.def_layout.specs.Pages.{Page, at}
use Rattle.def_model.specs.TreeRules.{Node, flat, first_page, least}
use Rattle.def_model.specs.Update.{Run, link_child, link_after_by, link_after}
use Rattle.theory_tree.specs.Shape.Levels.{Match, done, one, match_append, match_cut, ChainOk, chain_cut, chain_from, from_of, chain_from_of}
use Rattle.theory_tree.specs.Shape.Chains.{Chained, All, once_in_level}
use Rattle.theory_tree.specs.Shape.Trees.{is_bottom, Levels, levels_at, page_at}
use Rattle.theory_tree.specs.Step.Steps.{linked}
use Rattle.theory_tree.specs.Step.Parts.{under}
use Rattle.theory_update.specs.Run.Way.{Live, Result, idle, loosen}
use Rattle.theory_update.specs.Find.Places.{Spot, Stands, alone, pair, stands}
use Rattle.theory_update.specs.Add.Linking.{link_went}
use Rattle.theory_update.specs.Remove.Twins.{Twins}

pub record TwinAt (k l : ℕ) (ups : List (List Node)) (xs : List Node) (n : Node) (ys : List Node) (lp rp : ℕ) (ls : List (List Node)) : Type 0 where
  pub node : Node
  pub q : Node
  pub r : Node
  pub twins : Twins k ls ups xs node ys q r l
  pub same_page : node.page ≡ n.page
  pub grows : length n.items ≤ length node.items
  pub is_left : lp ≡ q.page
  pub is_right : rp ≡ r.page

next_high : (pages : List Page) (ups : List (List Node)) (bs : List Node) (q r : Node) (cs : List Node) (downs : List (List Node))
    → Levels pages (ups ++ (bs ++ q ∷ r ∷ cs) ∷ downs) → q.high < r.high
unfolding ChainOk
next_high pages ups bs q r cs downs lv = (chain_cut (is_bottom (length downs)) 0 bs (q ∷ r ∷ cs) (suc top) (levels_at pages ups (bs ++ q ∷ r ∷ cs) downs lv).chain).right.1.0.covers

from_mono : (pages : List Page) (ups : List (List Node)) (as₁ mid cs : List Node) (downs : List (List Node))
    → Levels pages (ups ++ ((as₁ ++ mid) ++ cs) ∷ downs) → from_of 0 as₁ ≤ from_of 0 (as₁ ++ mid)
from_mono pages ups as₁ mid cs downs lv =
    let b = is_bottom (length downs) in
    let c = chain_cut b 0 (as₁ ++ mid) cs (suc top) (levels_at pages ups ((as₁ ++ mid) ++ cs) downs lv).chain in
    let d = chain_cut b 0 as₁ mid c.mid c.left in
    let e = chain_from_of b 0 as₁ d.mid d.left in
    let f = chain_from_of b 0 (as₁ ++ mid) c.mid c.left in
    let g = chain_from b d.mid mid c.mid d.right in
    omega arith

after_yes : (p r w : ℕ) (s : Run) → (at s.pages r).high < w → link_after p r w s ≡ link_child p r w s
unfolding link_after link_after_by
after_yes p r w s h = rw (lt_true (at s.pages r).high w h)

after_no : (p r w : ℕ) (s : Run) → w ≤ (at s.pages r).high → link_after p r w s ≡ s
unfolding link_after link_after_by
after_no p r w s h = rw (lt_false (at s.pages r).high w h)

module _ (k l : ℕ) (s : Run) (ls ups : List (List Node)) (xs : List Node) (n : Node) (ys : List Node) (e : Entry) (q : Node) (p : Spot k ls ups xs n ys e (q ∷ []) l) (is : e.val ≡ q.page) (ends : q.high ≡ e.key)
    (four : length q.items ≡ least) (room₀ : length n.items < room) (v : Live s ls) where
  -- The next child.
  pub right_went : (f : Entry) (post : List Entry) → p.post ≡ f ∷ post
      → Result s ls 1 0 (link_after n.page f.val f.key s) (TwinAt k l ups xs n ys q.page f.val)
  right_went f post w =
      let b : Match ((f ∷ []) ++ (post ++ flat ys)) p.cs = subst (λ z. Match (z ++ flat ys) p.cs) w p.beyond in
      let c = match_cut (f ∷ []) b in
      go c.left c.right c.whole (stands f c.left c.left_match) c.right_match
    where
      go : (mid cs : List Node) → p.cs ≡ mid ++ cs → Stands f mid → Match (post ++ flat ys) cs
          → Result s ls 1 0 (link_after n.page f.val f.key s) (TwinAt k l ups xs n ys q.page f.val)
      go mid cs u (alone r i h) m =
          let w₁ : ls ≡ ups ++ (xs ++ n ∷ ys) ∷ (p.bs ++ q ∷ r ∷ cs) ∷ p.downs = p.whole ∙ ap (λ z. ups ++ (xs ++ n ∷ ys) ∷ (p.bs ++ q ∷ z) ∷ p.downs) u in
          let lv : Levels s.pages ((ups ++ (xs ++ n ∷ ys) ∷ []) ++ (p.bs ++ q ∷ r ∷ cs) ∷ p.downs) = subst (Levels s.pages) (w₁ ∙ sym (under ups (xs ++ n ∷ ys) (p.bs ++ q ∷ r ∷ cs) p.downs)) v.rules.levels in
          let rp = (page_at s.pages (ups ++ (xs ++ n ∷ ys) ∷ []) (p.bs ++ q ∷ []) r cs p.downs
          (subst (λ z. Levels s.pages ((ups ++ (xs ++ n ∷ ys) ∷ []) ++ z ∷ p.downs)) (sym (append_assoc p.bs (q ∷ []) (r ∷ cs))) lv)).2 in
          let nh = next_high s.pages (ups ++ (xs ++ n ∷ ys) ∷ []) p.bs q r cs p.downs lv in
          let hp : (at s.pages f.val).high ≡ f.key = ap (λ z. (at s.pages z).high) i ∙ rp.high ∙ h in
          let kh = p.high in
          subst (λ z. Result s ls 1 0 z (TwinAt k l ups xs n ys q.page f.val)) (sym (after_no n.page f.val f.key s (omega arith)))
          (loosen s ls 0 0 1 0 s (TwinAt k l ups xs n ys q.page f.val) (omega arith) (omega arith)
          (idle s ls (TwinAt k l ups xs n ys q.page f.val) v
          (record {
            node = n;
            q = q;
            r = r;
            twins = record {
              bs = p.bs;
              cs = cs;
              downs = p.downs;
              pre = p.pre;
              e = e;
              f = f;
              post = post;
              whole = w₁;
              depth = p.depth;
              items = p.items ∙ ap (λ z. p.pre ++ e ∷ z) w;
              e_is = is;
              e_ends = ends;
              f_is = i;
              f_ends = h;
              before = p.before;
              beyond = m;
              low = p.low;
              high = omega arith;
              four = inl four;
            };
            same_page = refl;
            grows = omega arith;
            is_left = refl;
            is_right = i;
          })))
      go mid cs u (pair r m' i lo hi) m =
          let w₁ : ls ≡ ups ++ (xs ++ n ∷ ys) ∷ (p.bs ++ q ∷ r ∷ m' ∷ cs) ∷ p.downs = p.whole ∙ ap (λ z. ups ++ (xs ++ n ∷ ys) ∷ (p.bs ++ q ∷ z) ∷ p.downs) u in
          let w₂ : ls ≡ ups ++ (xs ++ n ∷ ys) ∷ ((p.bs ++ q ∷ []) ++ r ∷ m' ∷ cs) ∷ p.downs = w₁ ∙ ap (λ z. ups ++ (xs ++ n ∷ ys) ∷ z ∷ p.downs) (sym (append_assoc p.bs (q ∷ []) (r ∷ m' ∷ cs))) in
          let lv : Levels s.pages ((ups ++ (xs ++ n ∷ ys) ∷ []) ++ (p.bs ++ q ∷ r ∷ m' ∷ cs) ∷ p.downs) = subst (Levels s.pages) (w₁ ∙ sym (under ups (xs ++ n ∷ ys) (p.bs ++ q ∷ r ∷ m' ∷ cs) p.downs)) v.rules.levels in
          let rp = (page_at s.pages (ups ++ (xs ++ n ∷ ys) ∷ []) (p.bs ++ q ∷ []) r (m' ∷ cs) p.downs
          (subst (λ z. Levels s.pages ((ups ++ (xs ++ n ∷ ys) ∷ []) ++ z ∷ p.downs)) (sym (append_assoc p.bs (q ∷ []) (r ∷ m' ∷ cs))) lv)).2 in
          let nh = next_high s.pages (ups ++ (xs ++ n ∷ ys) ∷ []) p.bs q r (m' ∷ cs) p.downs lv in
          let hp : (at s.pages f.val).high ≡ r.high = ap (λ z. (at s.pages z).high) i ∙ rp.high in
          let kh = p.high in
          let f₁ : Entry = entry r.high r.page in
          let f₂ : Entry = entry f.key m'.page in
          let it : n.items ≡ (p.pre ++ e ∷ []) ++ f ∷ post = p.items ∙ ap (λ z. p.pre ++ e ∷ z) w ∙ sym (append_assoc p.pre (e ∷ []) (f ∷ post)) in
          let n' = linked n r m' f (p.pre ++ e ∷ []) post in
          let l₁ = ap length it ∙ length-append (p.pre ++ e ∷ []) (f ∷ post) in
          let l₂ = length-append (p.pre ++ e ∷ []) (f₁ ∷ f₂ ∷ post) in
          subst (λ z. Result s ls 1 0 z (TwinAt k l ups xs n ys q.page f.val)) (sym (after_yes n.page f.val f.key s (omega arith)))
          (subst (λ z. Result s z 1 0 (link_child n.page f.val f.key s) (TwinAt k l ups xs n ys q.page f.val)) (sym w₂)
          (link_went s ups xs n ys (p.bs ++ q ∷ []) r m' cs p.downs (p.pre ++ e ∷ []) f post (TwinAt k l ups xs n ys q.page f.val) (subst (Live s) w₂ v) it room₀ i lo hi
          (subst (λ z. Match z (p.bs ++ q ∷ [])) (append_assoc (flat xs) p.pre (e ∷ [])) (match_append p.before (one is ends done))) m
          (λ t. record {
            node = n';
            q = q;
            r = r;
            twins = record {
              bs = p.bs;
              cs = m' ∷ cs;
              downs = p.downs;
              pre = p.pre;
              e = e;
              f = f₁;
              post = f₂ ∷ post;
              whole = ap (λ z. ups ++ (xs ++ n' ∷ ys) ∷ z ∷ p.downs) (append_assoc p.bs (q ∷ []) (r ∷ m' ∷ cs));
              depth = p.depth;
              items = append_assoc p.pre (e ∷ []) (f₁ ∷ f₂ ∷ post);
              e_is = is;
              e_ends = ends;
              f_is = refl;
              f_ends = refl;
              before = p.before;
              beyond = one refl hi m;
              low = p.low;
              high = omega arith;
              four = inl four;
            };
            same_page = refl;
            grows = omega arith;
            is_left = refl;
            is_right = i;
          })))

  abbrev left_of : ℕ → Run → ℕ
  left_of d t = pick (eqb (at t.pages d).right q.page) d (at t.pages d).right

  -- The child before, where there is no next.
  pub left_went : (d : Entry) (pre : List Entry) → p.pre ≡ pre ++ d ∷ [] → p.post ≡ []
      → Result s ls 1 0 (link_after n.page d.val d.key s)
      (TwinAt k l ups xs n ys (left_of d.val (link_after n.page d.val d.key s)) q.page)
  unfolding first_page All
  left_went d pre w w₀ =
      let b : Match ((flat xs ++ pre) ++ (d ∷ [])) p.bs = subst (λ z. Match z p.bs) (ap (flat xs ++◌) w ∙ sym (append_assoc (flat xs) pre (d ∷ []))) p.before in
      let c = match_cut (flat xs ++ pre) b in
      go c.left c.right c.whole (stands d c.right c.right_match) c.left_match
    where
      beyond' : Match (flat ys) p.cs
      beyond' = subst (λ z. Match (z ++ flat ys) p.cs) w₀ p.beyond

      it : n.items ≡ pre ++ d ∷ e ∷ []
      it = p.items ∙ (λ i. w i ++ e ∷ w₀ i) ∙ append_assoc pre (d ∷ []) (e ∷ [])

      go : (bs mid : List Node) → p.bs ≡ bs ++ mid → Stands d mid → Match (flat xs ++ pre) bs
          → Result s ls 1 0 (link_after n.page d.val d.key s)
          (TwinAt k l ups xs n ys (left_of d.val (link_after n.page d.val d.key s)) q.page)
      go bs mid u (alone L i h) m =
          let w₁ : ls ≡ ups ++ (xs ++ n ∷ ys) ∷ (bs ++ L ∷ q ∷ p.cs) ∷ p.downs
          = p.whole ∙ ap (λ z. ups ++ (xs ++ n ∷ ys) ∷ (z ++ q ∷ p.cs) ∷ p.downs) u ∙ ap (λ z. ups ++ (xs ++ n ∷ ys) ∷ z ∷ p.downs) (append_assoc bs (L ∷ []) (q ∷ p.cs)) in
          let lv : Levels s.pages ((ups ++ (xs ++ n ∷ ys) ∷ []) ++ (bs ++ L ∷ q ∷ p.cs) ∷ p.downs) = subst (Levels s.pages) (w₁ ∙ sym (under ups (xs ++ n ∷ ys) (bs ++ L ∷ q ∷ p.cs) p.downs)) v.rules.levels in
          let lp = (page_at s.pages (ups ++ (xs ++ n ∷ ys) ∷ []) bs L (q ∷ p.cs) p.downs lv).2 in
          let hp : (at s.pages d.val).high ≡ d.key = ap (λ z. (at s.pages z).high) i ∙ lp.high ∙ h in
          let rp : (at s.pages d.val).right ≡ q.page = ap (λ z. (at s.pages z).right) i ∙ lp.right in
          let fm = from_mono s.pages (ups ++ (xs ++ n ∷ ys) ∷ []) bs (L ∷ []) (q ∷ p.cs) p.downs
          (subst (λ z. Levels s.pages ((ups ++ (xs ++ n ∷ ys) ∷ []) ++ z ∷ p.downs)) (sym (append_assoc bs (L ∷ []) (q ∷ p.cs))) lv) in
          let lw = p.low in
          let lu : from_of 0 p.bs ≡ from_of 0 (bs ++ L ∷ []) = ap (from_of 0) u in
          subst (λ z. Result s ls 1 0 z (TwinAt k l ups xs n ys (left_of d.val z) q.page)) (sym (after_no n.page d.val d.key s (omega arith)))
          (loosen s ls 0 0 1 0 s (TwinAt k l ups xs n ys (left_of d.val s) q.page) (omega arith) (omega arith)
          (idle s ls (TwinAt k l ups xs n ys (left_of d.val s) q.page) v
          (record {
            node = n;
            q = L;
            r = q;
            twins = record {
              bs = bs;
              cs = p.cs;
              downs = p.downs;
              pre = pre;
              e = d;
              f = e;
              post = [];
              whole = w₁;
              depth = p.depth;
              items = it;
              e_is = i;
              e_ends = h;
              f_is = is;
              f_ends = ends;
              before = m;
              beyond = beyond';
              low = omega arith;
              high = p.high;
              four = inr four;
            };
            same_page = refl;
            grows = omega arith;
            is_left = rw (eq_true (at s.pages d.val).right q.page rp) i;
            is_right = refl;
          })))
      go bs mid u (pair L M i lo hi) m =
          let w₁ : ls ≡ ups ++ (xs ++ n ∷ ys) ∷ (bs ++ L ∷ M ∷ q ∷ p.cs) ∷ p.downs
          = p.whole ∙ ap (λ z. ups ++ (xs ++ n ∷ ys) ∷ (z ++ q ∷ p.cs) ∷ p.downs) u ∙ ap (λ z. ups ++ (xs ++ n ∷ ys) ∷ z ∷ p.downs) (append_assoc bs (L ∷ M ∷ []) (q ∷ p.cs)) in
          let lv : Levels s.pages ((ups ++ (xs ++ n ∷ ys) ∷ []) ++ (bs ++ L ∷ M ∷ q ∷ p.cs) ∷ p.downs) = subst (Levels s.pages) (w₁ ∙ sym (under ups (xs ++ n ∷ ys) (bs ++ L ∷ M ∷ q ∷ p.cs) p.downs)) v.rules.levels in
          let lp = (page_at s.pages (ups ++ (xs ++ n ∷ ys) ∷ []) bs L (M ∷ q ∷ p.cs) p.downs lv).2 in
          let hp : (at s.pages d.val).high ≡ L.high = ap (λ z. (at s.pages z).high) i ∙ lp.high in
          let fm = from_mono s.pages (ups ++ (xs ++ n ∷ ys) ∷ []) (bs ++ L ∷ []) (M ∷ []) (q ∷ p.cs) p.downs
          (subst (λ z. Levels s.pages ((ups ++ (xs ++ n ∷ ys) ∷ []) ++ z ∷ p.downs)) (sym (append_assoc (bs ++ L ∷ []) (M ∷ []) (q ∷ p.cs) ∙ append_assoc bs (L ∷ []) (M ∷ q ∷ p.cs))) lv) in
          let lw = p.low in
          let lu : from_of 0 p.bs ≡ from_of 0 ((bs ++ L ∷ []) ++ M ∷ []) = ap (from_of 0) (u ∙ sym (append_assoc bs (L ∷ []) (M ∷ []))) in
          let d₁ : Entry = entry L.high L.page in
          let d₂ : Entry = entry d.key M.page in
          let n' = linked n L M d pre (e ∷ []) in
          let t = link_child n.page d.val d.key s in
          let l₁ = ap length it ∙ length-append pre (d ∷ e ∷ []) in
          let l₂ = length-append pre (d₁ ∷ d₂ ∷ e ∷ []) in
          subst (λ z. Result s ls 1 0 z (TwinAt k l ups xs n ys (left_of d.val z) q.page)) (sym (after_yes n.page d.val d.key s (omega arith)))
          (subst (λ z. Result s z 1 0 t (TwinAt k l ups xs n ys (left_of d.val t) q.page)) (sym w₁)
          (link_went s ups xs n ys bs L M (q ∷ p.cs) p.downs pre d (e ∷ []) (TwinAt k l ups xs n ys (left_of d.val t) q.page) (subst (Live s) w₁ v) it room₀ i lo hi m (one is ends beyond')
          (λ x.
          let lv' = subst (Levels t.pages) (sym (under ups (xs ++ n' ∷ ys) (bs ++ L ∷ M ∷ q ∷ p.cs) p.downs)) x.rules.levels in
          let lp' = (page_at t.pages (ups ++ (xs ++ n' ∷ ys) ∷ []) bs L (M ∷ q ∷ p.cs) p.downs lv').2 in
          let rp : (at t.pages d.val).right ≡ M.page = ap (λ z. (at t.pages z).right) i ∙ lp'.right in
          let lk = levels_at t.pages (ups ++ (xs ++ n' ∷ ys) ∷ []) (bs ++ L ∷ M ∷ q ∷ p.cs) p.downs lv' in
          let sa : (bs ++ L ∷ []) ++ M ∷ q ∷ p.cs ≡ bs ++ L ∷ M ∷ q ∷ p.cs = append_assoc bs (L ∷ []) (M ∷ q ∷ p.cs) in
          let nq = (once_in_level t.pages (length p.downs) (is_bottom (length p.downs)) 0 (bs ++ L ∷ []) M (q ∷ p.cs) 0 (suc top)
          (subst (λ z. Chained t.pages (length p.downs) z 0) (sym sa) lk.chained) (subst (λ z. ChainOk (is_bottom (length p.downs)) 0 z (suc top)) (sym sa) lk.chain)).1.0 in
          record {
            node = n';
            q = M;
            r = q;
            twins = record {
              bs = bs ++ L ∷ [];
              cs = p.cs;
              downs = p.downs;
              pre = pre ++ d₁ ∷ [];
              e = d₂;
              f = e;
              post = [];
              whole = ap (λ z. ups ++ (xs ++ n' ∷ ys) ∷ z ∷ p.downs) (sym sa);
              depth = p.depth;
              items = sym (append_assoc pre (d₁ ∷ []) (d₂ ∷ e ∷ []));
              e_is = refl;
              e_ends = hi;
              f_is = is;
              f_ends = ends;
              before = subst (λ z. Match z (bs ++ L ∷ [])) (append_assoc (flat xs) pre (d₁ ∷ [])) (match_append m (one refl refl done));
              beyond = beyond';
              low = omega arith;
              high = p.high;
              four = inr four;
            };
            same_page = refl;
            grows = omega arith;
            is_left = rw (rp, neq_false {a = M.page} {b = q.page} (λ z. nq (sym z)));
            is_right = refl;
          })))
