-- `stored_ok`: more records than there are, or other ones, are not stored; else the slots after them decide.
use borrow.Author.Tests.{not-true, not-false}
use native.Mathlib.Omega.{arith}
use mathlib.Core.Path.{sym}
use Rattle.sound_parts.specs.Stored.{more_than_logged, more_than_slots, other_records, rest_decides}
use Rattle.sound_parts.proofs.stored_ok.Goals as goal

pub returns-then-logged-stored : goal.returns-then-logged-stored
returns-then-logged-stored c =
    let a = c.args in
    let p = c.requires in
    λ l e r. sym (more_than_logged a.m a.stored a.wl.now a.sl.now p.0.0 p.1.0 l r (omega (arith, c.if-logged-stored.true, e)))

pub returns-then-m-k : goal.returns-then-m-k
returns-then-m-k c =
    let a = c.args in
    let p = c.requires in
    λ l e r. sym (more_than_slots a.m a.stored a.wl.now a.sl.now p.0.0 p.1.0 l r c.if-m-k.true)

pub returns-then-not-same_part : goal.returns-then-not-same_part
returns-then-not-same_part c =
    let a = c.args in
    let p = c.requires in
    λ l e r. sym (other_records a.m a.stored a.wl.now a.sl.now p.0.0 p.1.0 l r (omega (arith, c.if-logged-stored.false, e)) c.same_part.ensures (not-true _ c.if-not-same_part.true-raw))

pub returns : goal.returns
returns c =
    let a = c.args in
    let p = c.requires in
    λ l e r. rest_decides a.m a.stored a.wl.now a.sl.now p.0.0 p.1.0 l r (omega (arith, c.if-logged-stored.false, e)) c.same_part.ensures (not-false _ c.if-not-same_part.false-raw) c.zero_from.ensures
