-- `redo_slide`: a page that is newer, and the page's bytes.
use borrow.Author.Rules.{rules}
use mathlib.Core.Path.{ap}
use Prim.Native.Nat.{ℕ, ◌/◌}
use borrow.Author.Tests.{not-false}
use Rattle.def_layout.specs.Sizes.{page_size, slot_size}
use Rattle.record_redo.specs.AtOnce.{Slide, as_part, slide_higher, slide_done}
use Rattle.record_redo.proofs.redo_slide.Goals as goal

pub returns-then-get32-own-clause-cases : goal.returns-then-get32-own-clause-cases
returns-then-get32-own-clause-cases c =
    let a = c.args in
    let s : Slide a.n a.m a.i a.pages.now a.log.now (c.get32-kind.result / 268435456) (c.get32.result / 4194304) c.get32-2.result =
    record {
      slot = c.requires.1;
      kind_told = ap (λ (w : ℕ). w / 268435456) (as_part slot_size a.i a.log.now 0 c.get32-kind.ensures);
      low = search rules;
      high = search rules;
      page_told = ap (λ (w : ℕ). w / 4194304) (as_part slot_size a.i a.log.now 16 c.get32.ensures);
      page = search rules;
      number = as_part page_size (c.get32.result / 4194304) a.pages.now 8 c.get32-2.ensures;
    }
    in
    slide_higher s (search rules)

pub returns-clause-cases : goal.returns-clause-cases
returns-clause-cases c =
    let a = c.args in
    let s : Slide a.n a.m a.i a.pages.now a.log.now (c.get32-kind.result / 268435456) (c.get32.result / 4194304) c.get32-2.result =
    record {
      slot = c.requires.1;
      kind_told = ap (λ (w : ℕ). w / 268435456) (as_part slot_size a.i a.log.now 0 c.get32-kind.ensures);
      low = search rules;
      high = search rules;
      page_told = ap (λ (w : ℕ). w / 4194304) (as_part slot_size a.i a.log.now 16 c.get32.ensures);
      page = search rules;
      number = as_part page_size (c.get32.result / 4194304) a.pages.now 8 c.get32-2.ensures;
    }
    in
    slide_done s _ _ _ _ (search rules)
    (as_part slot_size a.i a.log.now 20 c.get32-key.ensures) (as_part slot_size a.i a.log.now 24 c.get32-second.ensures)
    c.slide_made.ensures (not-false _ c.if-not-slide_made.false-raw)
