-- `with_digit`: kept where it is so already, else a one at its place is added or taken.
use borrow.Author.Rules.{rules}
use Rattle.codec_map.specs.Setting.{kept_on, kept_off, turned_on, turned_off, sum_fits, digit_le}
use Rattle.codec_map.proofs.with_digit.Goals as goal

pub returns-then-d-eq1 : goal.returns-then-d-eq1
returns-then-d-eq1 c =
    let a = c.args in
    kept_on a.k a.w a.on c.requires c.if-on.true c.if-d-eq1.true

pub overflow_add-result : goal.overflow_add-result
overflow_add-result c =
    let a = c.args in
    record { fits = sum_fits a.k a.w a.on c.requires (search rules) c.if-d-eq1.false }

pub returns-then-on : goal.returns-then-on
returns-then-on c =
    let a = c.args in
    turned_on a.k a.w a.on c.requires c.if-on.true c.if-d-eq1.false

pub returns-then-d-eq0 : goal.returns-then-d-eq0
returns-then-d-eq0 c =
    let a = c.args in
    kept_off a.k a.w a.on c.requires c.if-on.false c.if-d-eq0.true

pub overflow_sub-result : goal.overflow_sub-result
overflow_sub-result c =
    let a = c.args in
    digit_le a.k a.w a.on c.requires c.if-d-eq0.false

pub returns : goal.returns
returns c =
    let a = c.args in
    turned_off a.k a.w a.on c.requires c.if-on.false c.if-d-eq0.false
