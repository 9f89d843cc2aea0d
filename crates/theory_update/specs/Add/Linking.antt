-- LINK as an update does it, and the child that covers k after it.
use Rattle.std.specs.Prelude.{ℕ, suc, ◌≤◌, ◌<◌, ◌≡◌, refl, List, [], ◌∷◌, ◌++◌, length}
use Rattle.std.proofs.Common.{sym, ap, ◌∙◌, subst, append_assoc, arith, length-append}
use Rattle.std.proofs.Math.Decide.{dec_le}
use Rattle.def_layout.specs.declared.Entry.{Entry}
use Rattle.def_layout.specs.Entries.{entry}
use Rattle.def_layout.specs.Sizes.{room}
use Rattle.def_layout.specs.Records.{link_row}
use Rattle.def_model.specs.TreeRules.{Node, flat, first_page}
use Rattle.def_model.specs.Lookup.{covering}
use Rattle.def_model.specs.Update.{Run, emit, link_child}
use Rattle.theory_tree.specs.Shape.Levels.{Match, done, one, match_append, from_of, from_append}
use Rattle.theory_tree.specs.Shape.Trees.{Levels, page_at}
use Rattle.theory_tree.specs.Step.Steps.{linked, Step, links}
use Rattle.theory_tree.specs.Step.Parts.{counted_same, length_mid}
use Rattle.theory_tree.specs.Step.Leaves.{leaves_above}
use Rattle.theory_update.specs.Run.Way.{Live, live_more, Result, emitted}
use Rattle.theory_update.specs.Find.Places.{Spot}
use Rattle.theory_update.specs.Add.Splitting.{half_left, half_right}

pub link_is : (s : Run) (ups : List (List Node)) (bs : List Node) (q m : Node) (cs : List Node) (downs : List (List Node)) (p c w : ℕ)
    → Levels s.pages (ups ++ (bs ++ q ∷ m ∷ cs) ∷ downs) → c ≡ q.page
    → link_child p c w s ≡ emit (link_row p q.page m.page q.high w) s
unfolding link_child first_page
link_is s ups bs q m cs downs p c w lv e =
    let (a, b, i) = page_at s.pages ups bs q (m ∷ cs) downs lv in
    rw (e, i.right, i.high)

pub link_went : (s : Run) (ups : List (List Node)) (xs : List Node) (p : Node) (ys bs : List Node) (q r : Node) (cs : List Node)
    (downs : List (List Node)) (pre : List Entry) (e : Entry) (post : List Entry) (P : List (List Node) → Type 0)
    → Live s (ups ++ (xs ++ p ∷ ys) ∷ (bs ++ q ∷ r ∷ cs) ∷ downs) → p.items ≡ pre ++ e ∷ post → length p.items < room → e.val ≡ q.page
    → q.high < e.key → r.high ≡ e.key
    → Match (flat xs ++ pre) bs → Match (post ++ flat ys) cs
    → (Live (link_child p.page e.val e.key s) (ups ++ (xs ++ linked p q r e pre post ∷ ys) ∷ (bs ++ q ∷ r ∷ cs) ∷ downs) → P (ups ++ (xs ++ linked p q r e pre post ∷ ys) ∷ (bs ++ q ∷ r ∷ cs) ∷ downs))
    → Result s (ups ++ (xs ++ p ∷ ys) ∷ (bs ++ q ∷ r ∷ cs) ∷ downs) 1 0 (link_child p.page e.val e.key s) P
link_went s ups xs p ys bs q r cs downs pre e post P v old space i l h m₁ m₂ f =
    let T = ups ++ (xs ++ p ∷ ys) ∷ (bs ++ q ∷ r ∷ cs) ∷ downs in
    let T' = ups ++ (xs ++ linked p q r e pre post ∷ ys) ∷ (bs ++ q ∷ r ∷ cs) ∷ downs in
    let row = link_row p.page q.page r.page q.high e.key in
    let st : Step s.pages T row T' = links ups xs p ys bs q r cs downs pre e post old space i l h m₁ m₂ in
    let w = link_is s (ups ++ (xs ++ p ∷ ys) ∷ []) bs q r cs downs p.page e.val e.key (subst (Levels s.pages) (sym (append_assoc ups ((xs ++ p ∷ ys) ∷ []) ((bs ++ q ∷ r ∷ cs) ∷ downs))) v.rules.levels) i in
    let cn = counted_same ups (xs ++ p ∷ ys) (xs ++ linked p q r e pre post ∷ ys) ((bs ++ q ∷ r ∷ cs) ∷ downs) (length_mid xs (linked p q r e pre post) p ys) in
    subst (λ z. Result s T 1 0 z P) (sym w)
    (emitted row s T T' 0 P v st (leaves_above ups (xs ++ p ∷ ys) _ (bs ++ q ∷ r ∷ cs) downs) (omega arith)
    (λ g. f (subst (λ z. Live z T') (sym (w ∙ g)) (live_more row s T T' v st))))

-- ---- the child that covers k, after a link

-- (`Has` is what is known of the child besides.)
abbrev pub Any : Node → Type 0
Any n = Unit {0}

pub record PairAt (k l : ℕ) (ups : List (List Node)) (xs : List Node) (n : Node) (ys : List Node) (Has : Node → Type 0) (parent child : ℕ) (ls : List (List Node)) : Type 0 where
  pub node : Node
  pub entry : Entry
  pub q : Node
  pub spot : Spot k ls ups xs node ys entry (q ∷ []) l
  pub same_page : node.page ≡ n.page
  pub same_high : node.high ≡ n.high
  pub grows : length n.items ≤ length node.items
  pub bounded : length node.items ≤ suc (length n.items)
  pub is : entry.val ≡ q.page
  pub ends : q.high ≡ entry.key
  pub is_parent : parent ≡ n.page
  pub is_child : child ≡ q.page
  pub has : Has q

-- A link at a spot, and the spot of the half that covers k.
pub link_down : (k : ℕ) (s : Run) (ls ups : List (List Node)) (xs : List Node) (n : Node) (ys : List Node) (e : Entry) (q m : Node) (l : ℕ)
    (Has : Node → Type 0) (p : Spot k ls ups xs n ys e (q ∷ m ∷ []) l)
    → e.val ≡ q.page → q.high < e.key → m.high ≡ e.key → length n.items < room → Has q → Has m → Live s ls
    → Result s ls 1 0 (link_child n.page e.val e.key s)
    (PairAt k l ups xs n ys Has n.page (covering k e.val (link_child n.page e.val e.key s).pages))
unfolding from_of
link_down k s ls ups xs n ys e q m l Has p i lo hi space hq hm v =
    subst (λ z. Result s z 1 0 (link_child n.page e.val e.key s) P) (sym p.whole)
    (link_went s ups xs n ys p.bs q m p.cs p.downs p.pre e p.post P (subst (Live s) p.whole v) p.items space i lo hi p.before p.beyond
    (λ t. at_half t (dec_le k q.high)))
  where
    P : List (List Node) → Type 0
    P = PairAt k l ups xs n ys Has n.page (covering k e.val (link_child n.page e.val e.key s).pages)

    n' : Node
    n' = linked n q m e p.pre p.post

    e₁ : Entry
    e₁ = entry q.high q.page

    e₂ : Entry
    e₂ = entry e.key m.page

    T' : List (List Node)
    T' = ups ++ (xs ++ n' ∷ ys) ∷ (p.bs ++ q ∷ m ∷ p.cs) ∷ p.downs

    size_of : length n'.items ≡ suc (length n.items)
    size_of =
        let a = length-append p.pre (e₁ ∷ e₂ ∷ p.post) in
        let b = ap length p.items ∙ length-append p.pre (e ∷ p.post) in
        omega arith

    at_half : Live (link_child n.page e.val e.key s) T' → Dec (k ≤ q.high) → P T'
    at_half t (yes h) =
        let lv = subst (Levels (link_child n.page e.val e.key s).pages) (sym (append_assoc ups ((xs ++ n' ∷ ys) ∷ []) ((p.bs ++ q ∷ m ∷ p.cs) ∷ p.downs))) t.rules.levels in
        let z = size_of in
        record {
          node = n';
          entry = e₁;
          q = q;
          spot = record {
            bs = p.bs;
            cs = m ∷ p.cs;
            downs = p.downs;
            pre = p.pre;
            post = e₂ ∷ p.post;
            whole = refl;
            depth = p.depth;
            items = refl;
            before = p.before;
            here = one refl refl done;
            beyond = one refl hi p.beyond;
            low = p.low;
            high = h;
          };
          same_page = refl;
          same_high = refl;
          grows = omega arith;
          bounded = omega arith;
          is = refl;
          ends = refl;
          is_parent = refl;
          is_child = ap (λ c. covering k c (link_child n.page e.val e.key s).pages) i ∙ half_left k (link_child n.page e.val e.key s) (ups ++ (xs ++ n' ∷ ys) ∷ []) p.bs q m p.cs p.downs lv h;
          has = hq;
        }
    at_half t (no h) =
        let lv = subst (Levels (link_child n.page e.val e.key s).pages) (sym (append_assoc ups ((xs ++ n' ∷ ys) ∷ []) ((p.bs ++ q ∷ m ∷ p.cs) ∷ p.downs))) t.rules.levels in
        let z = size_of in
        let g : q.high < k = omega arith in
        let fr = from_append 0 p.bs (q ∷ []) in
        record {
          node = n';
          entry = e₂;
          q = m;
          spot = record {
            bs = p.bs ++ q ∷ [];
            cs = p.cs;
            downs = p.downs;
            pre = p.pre ++ e₁ ∷ [];
            post = p.post;
            whole = ap (λ z. ups ++ (xs ++ n' ∷ ys) ∷ z ∷ p.downs) (sym (append_assoc p.bs (q ∷ []) (m ∷ p.cs)));
            depth = p.depth;
            items = sym (append_assoc p.pre (e₁ ∷ []) (e₂ ∷ p.post));
            before = subst (λ z. Match z (p.bs ++ q ∷ [])) (append_assoc (flat xs) p.pre (e₁ ∷ [])) (match_append p.before (one refl refl done));
            here = one refl hi done;
            beyond = p.beyond;
            low = omega arith;
            high = p.high;
          };
          same_page = refl;
          same_high = refl;
          grows = omega arith;
          bounded = omega arith;
          is = refl;
          ends = hi;
          is_parent = refl;
          is_child = ap (λ c. covering k c (link_child n.page e.val e.key s).pages) i ∙ half_right k (link_child n.page e.val e.key s) (ups ++ (xs ++ n' ∷ ys) ∷ []) p.bs q m p.cs p.downs lv g;
          has = hm;
        }
