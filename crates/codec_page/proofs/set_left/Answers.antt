-- `set_left`: the first word is written again.
use mathlib.Core.Path.{◌∙◌, ap}
use Prim.Native.Nat.{ℕ, ◌+◌, ◌-◌, ◌*◌, ◌/◌, ◌%◌}
use Rattle.def_layout.specs.Numbers.{put32}
use Rattle.law_bytes.specs.Patch.{patch}
use Rattle.codec_page.proofs.set_left.Goals as goal

pub returns : goal.returns
returns c =
    let a = c.args in
    c.set32.ensures
    ∙ ap (λ (x : ℕ). patch a.pages.now (128 * a.p) (put32 (x + a.l * 4))) (c.unlinked-w.ensures ∙ ap (λ (g : ℕ). g - g / 4 % 1024 * 4) c.get32.ensures)
