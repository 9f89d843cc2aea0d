-- `with_word`: by the word's place in its entry.
use borrow.Author.Rules.{rules}
use mathlib.Core.Path.{◌≡◌}
use native.Mathlib.Omega.{arith}
use lib.ListN.{length}
use Rattle.codec_map.specs.Setting.{key_set, val_set}
use Rattle.codec_map.proofs.with_word.Goals as goal

pub returns-then-j-eq0 : goal.returns-then-j-eq0
returns-then-j-eq0 c =
    let a = c.args in
    let h : length a.es ≡ 14 = search rules in
    key_set a.es a.j a.w (omega arith) c.if-j-eq0.true

pub returns-else-j-eq0 : goal.returns-else-j-eq0
returns-else-j-eq0 c =
    let a = c.args in
    let h : length a.es ≡ 14 = search rules in
    val_set a.es a.j a.w (omega arith) c.if-j-eq0.false
