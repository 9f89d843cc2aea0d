-- Split, link, unlink, merge and redistribute on the nodes of one level, and on the entries above it.
use Rattle.std.specs.Prelude.{ℕ, suc, ◌≤◌, ◌<◌, ◌≡◌, Bool, true, false, List, [], ◌∷◌, ◌++◌}
use Rattle.std.proofs.Common.{sym, ◌∙◌, append_assoc, arith}
use Rattle.def_layout.specs.declared.Entry.{Entry}
use Rattle.def_model.specs.Fit.{after}
use Rattle.def_model.specs.TreeRules.{Node, flat}
use Rattle.theory_tree.specs.Order.Keys.{Rising, after_append, rising_append, rising_cut, rising_weaken, after_grows, after_mono}
use Rattle.theory_tree.specs.Shape.Levels.{flat_append, Match, one, two, match_append, Ends, NodeOk, ChainOk, ends_le, chain_append, chain_cut, chain_swap, match_end, index_end}

-- ---- split

-- Node n becomes n₁ and n₂.
pub record Splits (n n₁ n₂ : Node) : Type 0 where
  pub same_page : n₁.page ≡ n.page
  pub same_items : n.items ≡ n₁.items ++ n₂.items
  pub same_high : n₂.high ≡ n.high
  pub lower_high : n₁.high < n.high
  -- the left page's high key is its last entry's, and it has one
  pub last_key : (from : ℕ) → after from n₁.items ≡ suc n₁.high

pub split_flat : (n n₁ n₂ : Node) → Splits n n₁ n₂ → (xs ys : List Node) → flat (xs ++ n₁ ∷ n₂ ∷ ys) ≡ flat (xs ++ n ∷ ys)
unfolding flat
split_flat n n₁ n₂ s xs ys = rw (flat_append, flat_append, s.same_items, append_assoc)

pub split_match : (n n₁ n₂ : Node) → Splits n n₁ n₂ → {es fs : List Entry} (e : Entry) {xs ys : List Node} → e.val ≡ n.page → n.high ≡ e.key
    → Match es xs → Match fs ys → Match (es ++ e ∷ fs) (xs ++ n₁ ∷ n₂ ∷ ys)
split_match n n₁ n₂ s e v h l r = match_append l (two (v ∙ sym s.same_page) (omega (arith, s.lower_high)) (s.same_high ∙ h) r)

covers_of : (c : ℕ) (es : List Entry) (h : ℕ) → Rising c es → ((from : ℕ) → after from es ≡ suc h) → c ≤ h
unfolding Rising after
covers_of c [] h r f = omega (arith, f 0)
covers_of c (e ∷ es) h r f = let g = after_grows (suc e.key) es r.1 in let k = r.0 in omega (arith, f c)

exact_end : (b : Bool) (a h : ℕ) → a ≡ suc h → Ends b a h
exact_end true a h e = omega arith
exact_end false a h e = e

pub split_chain : (n n₁ n₂ : Node) → Splits n n₁ n₂ → (b : Bool) (from : ℕ) (xs ys : List Node) (to : ℕ)
    → ChainOk b from (xs ++ n ∷ ys) to → ChainOk b from (xs ++ n₁ ∷ n₂ ∷ ys) to
unfolding ChainOk
split_chain n n₁ n₂ s b from xs ys to h = chain_swap b from xs (n ∷ []) (n₁ ∷ n₂ ∷ []) ys to here h
  where
    here : (c d : ℕ) → ChainOk b c (n ∷ []) d → ChainOk b c (n₁ ∷ n₂ ∷ []) d
    here c d k =
        let (r₁, r₂) = rising_cut c n₁.items n₂.items (rw s.same_items at k.0.rises) in
        let l = s.last_key c in
        let e₂ : Ends b (after (after c n₁.items) n₂.items) n.high = rw (s.same_items, after_append) at k.0.ends in (
          record { covers = covers_of c n₁.items n₁.high r₁ s.last_key; rises = r₁; ends = exact_end b _ _ l },
          (
            record { covers = rw s.same_high s.lower_high; rises = rw l at r₂; ends = rw s.same_high (rw l at e₂) },
            rw s.same_high k.1,
          ),
        )

-- ---- link

-- In a level's entries e becomes e₁, e₂: the nodes below stay.
pub record Links (e e₁ e₂ : Entry) (q r : Node) : Type 0 where
  pub is_q : e.val ≡ q.page
  pub first_val : e₁.val ≡ q.page
  pub first_key : e₁.key ≡ q.high
  pub second_val : e₂.val ≡ r.page
  pub second_key : e₂.key ≡ e.key
  pub indirect : q.high < e.key
  pub r_high : r.high ≡ e.key

pub link_match : (e e₁ e₂ : Entry) (q r : Node) → Links e e₁ e₂ q r → {es fs : List Entry} {xs ys : List Node} → Match es xs → Match fs ys
    → Match (es ++ e₁ ∷ e₂ ∷ fs) (xs ++ q ∷ r ∷ ys)
link_match e e₁ e₂ q r k l m =
    match_append l (one k.first_val (sym k.first_key) (one k.second_val (k.r_high ∙ sym k.second_key) m))

-- The node whose items hold e: p becomes p'.
pub record Relinks (p p' : Node) (pre post : List Entry) (e e₁ e₂ : Entry) : Type 0 where
  pub same_page : p'.page ≡ p.page
  pub same_high : p'.high ≡ p.high
  pub old : p.items ≡ pre ++ e ∷ post
  pub new : p'.items ≡ pre ++ e₁ ∷ e₂ ∷ post

pub link_flat : (p p' : Node) (pre post : List Entry) (e e₁ e₂ : Entry) → Relinks p p' pre post e e₁ e₂ → (xs ys : List Node)
    → (flat (xs ++ p ∷ ys) ≡ flat xs ++ pre ++ e ∷ (post ++ flat ys)) × (flat (xs ++ p' ∷ ys) ≡ flat xs ++ pre ++ e₁ ∷ e₂ ∷ (post ++ flat ys))
unfolding flat
link_flat p p' pre post e e₁ e₂ k xs ys = (
  rw (flat_append, k.old) (simp append_assoc),
  rw (flat_append, k.new) (simp append_assoc),
)

-- The level of p stays in order: q's cover begins where the entries before e end.
pub link_chain : (p p' : Node) (pre post : List Entry) (e e₁ e₂ : Entry) → Relinks p p' pre post e e₁ e₂ → (q r : Node) → Links e e₁ e₂ q r
    → (from : ℕ) (xs ys : List Node) (to : ℕ) (b : Bool) (below below₂ : List Node) (to₂ : ℕ)
    → ChainOk b from (below ++ q ∷ below₂) to₂ → Match (flat xs ++ pre) below
    → ChainOk false from (xs ++ p ∷ ys) to → ChainOk false from (xs ++ p' ∷ ys) to
unfolding ChainOk Rising after
link_chain p p' pre post e e₁ e₂ k q r l from xs ys to b below below₂ to₂ lower m h =
    let c = chain_cut false from xs (p ∷ ys) to h in
    let d = chain_cut b from below (q ∷ below₂) to₂ lower in
    -- where q's cover begins
    let a : d.mid ≡ after from (flat xs ++ pre) = match_end b from d.mid m d.left in
    let f : c.mid ≡ after from (flat xs) = index_end from xs c.mid c.left in
    let g : after c.mid pre ≡ d.mid = rw f (sym (a ∙ after_append from (flat xs) pre)) in
    let u : after c.mid pre ≤ q.high = rw g d.right.0.covers in
    chain_append false from xs c.mid (p' ∷ ys) to c.left (node c.mid u c.right.0, rw k.same_high c.right.1)
  where
    node : (a : ℕ) → after a pre ≤ q.high → NodeOk false a p → NodeOk false a p'
    node a u o =
        let (r₁, r₂) = rising_cut a pre (e ∷ post) (rw k.old at o.rises) in
        let z : after a (pre ++ e ∷ post) ≡ suc p.high = rw k.old at o.ends in
        record {
          covers = rw k.same_high o.covers;
          rises = rw k.new (rising_append a pre (e₁ ∷ e₂ ∷ post) r₁ (rw l.first_key u, (rw (l.first_key, l.second_key) l.indirect, rw l.second_key r₂.1)));
          ends = rw (k.new, k.same_high, after_append a pre (e₁ ∷ e₂ ∷ post), l.second_key) (rw (after_append a pre (e ∷ post)) at z);
        }

-- ---- merge, and redistribute: a merge and then a split

-- Nodes q and r become n.
pub record Merges (q r n : Node) : Type 0 where
  pub same_page : n.page ≡ q.page
  pub same_items : n.items ≡ q.items ++ r.items
  pub same_high : n.high ≡ r.high

pub merge_flat : (q r n : Node) → Merges q r n → (xs ys : List Node) → flat (xs ++ n ∷ ys) ≡ flat (xs ++ q ∷ r ∷ ys)
unfolding flat
merge_flat q r n m xs ys = rw (flat_append, flat_append, m.same_items, append_assoc)

pub merge_match : (q r n : Node) → Merges q r n → {es fs : List Entry} (e : Entry) {xs ys : List Node} → e.val ≡ q.page → r.high ≡ e.key
    → Match es xs → Match fs ys
    → Match (es ++ e ∷ fs) (xs ++ n ∷ ys)
merge_match q r n m e v h l k = match_append l (one (v ∙ sym m.same_page) (m.same_high ∙ h) k)

-- The end of the entries of two nodes together.
ends_both : (b : Bool) (c h₁ h₂ : ℕ) (es fs : List Entry) → Ends b (after c es) h₁ → Ends b (after (suc h₁) fs) h₂ → Ends b (after c (es ++ fs)) h₂
ends_both true c h₁ h₂ es fs p q = let m = after_mono (after c es) (suc h₁) fs p in rw after_append (omega arith)
ends_both false c h₁ h₂ es fs p q = rw (after_append, p) q

pub merge_chain : (q r n : Node) → Merges q r n → (b : Bool) (from : ℕ) (xs ys : List Node) (to : ℕ) → ChainOk b from (xs ++ q ∷ r ∷ ys) to
    → ChainOk b from (xs ++ n ∷ ys) to
unfolding ChainOk
merge_chain q r n m b from xs ys to h = chain_swap b from xs (q ∷ r ∷ []) (n ∷ []) ys to here h
  where
    here : (c d : ℕ) → ChainOk b c (q ∷ r ∷ []) d → ChainOk b c (n ∷ []) d
    here c d k =
        let l = ends_le b (after c q.items) q.high k.0.ends in
        let g = k.0.covers in
        let g' = k.1.0.covers in (
          record {
            covers = rw m.same_high (omega arith);
            rises = rw m.same_items (rising_append c q.items r.items k.0.rises (rising_weaken _ (suc q.high) r.items l k.1.0.rises));
            ends = rw (m.same_items, m.same_high) (ends_both b c q.high r.high q.items r.items k.0.ends k.1.0.ends);
          },
          rw m.same_high k.1.1,
        )

-- A redistribution: both together, and then apart.
pub share_chain : (q r n q' r' : Node) → Merges q r n → Splits n q' r' → (b : Bool) (from : ℕ) (xs ys : List Node) (to : ℕ)
    → ChainOk b from (xs ++ q ∷ r ∷ ys) to → ChainOk b from (xs ++ q' ∷ r' ∷ ys) to
share_chain q r n q' r' m s b from xs ys to h = split_chain n q' r' s b from xs ys to (merge_chain q r n m b from xs ys to h)

pub share_flat : (q r n q' r' : Node) → Merges q r n → Splits n q' r' → (xs ys : List Node) → flat (xs ++ q' ∷ r' ∷ ys) ≡ flat (xs ++ q ∷ r ∷ ys)
share_flat q r n q' r' m s xs ys = split_flat n q' r' s xs ys ∙ merge_flat q r n m xs ys

pub share_match : (q r n q' r' : Node) → Merges q r n → Splits n q' r' → {es fs : List Entry} (e : Entry) {xs ys : List Node} → e.val ≡ q.page
    → r.high ≡ e.key → Match es xs → Match fs ys
    → Match (es ++ e ∷ fs) (xs ++ q' ∷ r' ∷ ys)
share_match q r n q' r' m s e v h l k = split_match n q' r' s e (v ∙ sym m.same_page) (m.same_high ∙ h) l k

-- ---- unlink

-- Unlink: e₁, e₂ become e, the nodes stay.
pub unlink_match : (e e₁ e₂ : Entry) (q r : Node) → e.val ≡ q.page → r.high ≡ e.key → q.high < e.key → {es fs : List Entry} {xs ys : List Node}
    → Match es xs → Match fs ys
    → Match (es ++ e ∷ fs) (xs ++ q ∷ r ∷ ys)
unlink_match e e₁ e₂ q r v h l a b = match_append a (two v l h b)

pub unlink_rising : (f : ℕ) (pre : List Entry) (e e₁ e₂ : Entry) (post : List Entry) → e.key ≡ e₂.key → Rising f (pre ++ e₁ ∷ e₂ ∷ post)
    → Rising f (pre ++ e ∷ post)
unfolding Rising
unlink_rising f pre e e₁ e₂ post k r =
    let (a, b) = rising_cut f pre (e₁ ∷ e₂ ∷ post) r in
    let c = b.0 in
    let d = b.1.0 in
    rising_append f pre (e ∷ post) a (rw k (omega arith), rw k b.1.1)

pub unlink_chain : (p p' : Node) (pre post : List Entry) (e e₁ e₂ : Entry) → p'.high ≡ p.high → p.items ≡ pre ++ e₁ ∷ e₂ ∷ post
    → p'.items ≡ pre ++ e ∷ post → e.key ≡ e₂.key
    → (from : ℕ) (xs ys : List Node) (to : ℕ) → ChainOk false from (xs ++ p ∷ ys) to → ChainOk false from (xs ++ p' ∷ ys) to
unfolding ChainOk after
unlink_chain p p' pre post e e₁ e₂ h old new k from xs ys to c = chain_swap false from xs (p ∷ []) (p' ∷ []) ys to here c
  where
    here : (a d : ℕ) → ChainOk false a (p ∷ []) d → ChainOk false a (p' ∷ []) d
    here a d o =
        let z : after a (pre ++ e₁ ∷ e₂ ∷ post) ≡ suc p.high = rw old at o.0.ends in (
          record {
            covers = rw h o.0.covers;
            rises = rw new (unlink_rising a pre e e₁ e₂ post k (rw old at o.0.rises));
            ends = rw (new, h, after_append a pre (e ∷ post), k) (rw (after_append a pre (e₁ ∷ e₂ ∷ post)) at z);
          },
          rw h o.1,
        )
