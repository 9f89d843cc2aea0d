-- The leaves as the program goes along them: from the first one, by right links.
use Rattle.std.specs.Prelude.{ℕ, zero, suc, ◌≡◌, refl, true, false, List, [], ◌∷◌, length}
use Rattle.std.proofs.Common.{sym, ◌∙◌, arith}
use Rattle.std.proofs.Math.Path.{ap}
use Rattle.def_base.specs.Tests.{eq_true, neq_false}
use Rattle.def_layout.specs.declared.Entry.{Entry}
use Rattle.def_layout.specs.Entries.{entry_at}
use Rattle.def_layout.specs.Numbers.{tab}
use Rattle.def_layout.specs.Pages.{Page, at}
use Rattle.def_model.specs.TreeRules.{node_of, chain, first_child, collect, levels_of, bottom}
use Rattle.def_model.specs.Links.{left_at, linked, lefts_ok}
use Rattle.law_bytes.specs.EntryBytes.{used}
use Rattle.codec_page.specs.declared.Page as program
use Rattle.codec_page.specs.Typed.{typed}
use Rattle.codec_entries.specs.Turns.{used_cons}

-- So many levels below page p.
unfoldable pub down : ℕ → List Page → ℕ → ℕ
down zero pages p = p
down (suc l) pages p = down l pages (first_child (at pages p).entries)

abbrev pub first_leaf : List Page → ℕ
first_leaf pages = down (at pages 1).level pages 1

pub down_from : (pages : List Page) (x : program.Page) (l : ℕ) → l ≡ x.level → typed x ≡ at pages 1 → down l pages 1 ≡ first_leaf pages
unfolding typed
down_from pages x l h e = ap (λ (k : ℕ). down k pages 1) h ∙ ap (λ (y : Page). down y.level pages 1) e

pub down_end : (l : ℕ) (pages : List Page) (p : ℕ) → l ≡ 0 → down l pages p ≡ first_leaf pages → p ≡ first_leaf pages
unfolding down
down_end l pages p z e = sym (ap (λ k. down k pages p) z) ∙ e

pub down_step : (l m : ℕ) (pages : List Page) (p q : ℕ) → l ≡ suc m → q ≡ first_child (at pages p).entries → down l pages p ≡ down m pages q
unfolding down
down_step l m pages p q e f = ap (λ k. down k pages p) e ∙ ap (down m pages) (sym f)

-- The first child, by how many entries there are.
pub child_none : (es fs : List Entry) (r : ℕ) → fs ≡ used r es → r ≡ 0 → 0 ≡ first_child fs
unfolding first_child tab
child_none es fs r e z = sym (ap first_child (e ∙ ap (λ m. used m es) z))

pub child_first : (es fs : List Entry) (r : ℕ) → fs ≡ used r es → (r ≡ 0 → ⊥) → (entry_at es 0).val ≡ first_child fs
unfolding first_child
child_first es fs r e nz = sym (ap first_child (e ∙ used_cons es r 0 (omega arith)))

-- They are the lowest level.
collected : (l : ℕ) (pages : List Page) (p : ℕ) → bottom (collect l pages p) ≡ chain (length pages) pages (down l pages p)
unfolding bottom collect down
collected zero pages p = refl
collected (suc zero) pages p = refl
collected (suc (suc l)) pages p = collected (suc l) pages (first_child (at pages p).entries)

pub leaves_from : (pages : List Page) → bottom (levels_of pages) ≡ chain (length pages) pages (first_leaf pages)
leaves_from pages = collected (at pages 1).level pages 1

-- ---- one leaf after the other

pub chain_none : (f : ℕ) (pages : List Page) → chain f pages 0 ≡ []
unfolding chain
chain_none zero pages = refl
chain_none (suc f) pages = refl

pub chain_out : (f : ℕ) (pages : List Page) (p : ℕ) → f ≡ 0 → chain f pages p ≡ []
unfolding chain
chain_out f pages p e = ap (λ k. chain k pages p) e

pub chain_next : (f g : ℕ) (pages : List Page) (p q : ℕ) → f ≡ suc g → (p ≡ 0 → ⊥) → q ≡ (at pages p).right → chain f pages p ≡ node_of pages p ∷ chain g pages q
unfolding chain
chain_next f g pages p q e nz r = ap (λ k. chain k pages p) e ∙ rw (neq_false nz) (ap (λ k. node_of pages p ∷ chain g pages k) (sym r))

-- ---- judged

module _ (pages : List Page) (lefts : List ℕ) where
  pub linked_from : lefts_ok pages lefts ≡ linked 0 (chain (length pages) pages (first_leaf pages)) lefts
  unfolding lefts_ok
  linked_from = ap (λ ns. linked 0 ns lefts) (leaves_from pages)

  pub linked_end : (b f p : ℕ) → p ≡ 0 → linked b (chain f pages p) lefts ≡ true
  unfolding linked
  linked_end b f p e = ap (λ q. linked b (chain f pages q) lefts) e ∙ ap (λ ns. linked b ns lefts) (chain_none f pages)

  pub linked_out : (b f p : ℕ) → f ≡ 0 → linked b (chain f pages p) lefts ≡ true
  unfolding linked
  linked_out b f p e = ap (λ ns. linked b ns lefts) (chain_out f pages p e)

  module _ (b f g p q : ℕ) (e : f ≡ suc g) (nz : p ≡ 0 → ⊥) (r : q ≡ (at pages p).right) where
    pub linked_on : left_at lefts p ≡ b → linked b (chain f pages p) lefts ≡ linked p (chain g pages q) lefts
    unfolding linked node_of
    linked_on l = ap (λ ns. linked b ns lefts) (chain_next f g pages p q e nz r) ∙ rw (eq_true (left_at lefts p) b l)

    pub linked_off : (left_at lefts p ≡ b → ⊥) → linked b (chain f pages p) lefts ≡ false
    unfolding linked node_of
    linked_off l = ap (λ ns. linked b ns lefts) (chain_next f g pages p q e nz r) ∙ rw (neq_false l)
