-- `redo_log`: after i turns the first i records are done, and their slots are copied.
use Prim.Native.Nat.{◌≤◌, ◌*◌}
use mathlib.Core.Path.{◌≡◌}
use lib.ListN.{length}
use Rattle.record_redo.specs.Copies.{Copied}
use Rattle.record_redo.specs.Logs.{Turned}
use Rattle.record_redo.proofs.redo_log.Given as goal

abbrev pub invariant-loop-i : goal.invariant-loop-i
invariant-loop-i l = record {
  pages_size : length l.pages ≡ length l.initial.pages;
  most : l.count ≤ 4 * l.i;
  turned : Turned l.n l.m l.logged l.initial.pages l.log l.pages l.count l.i;
  to_size : length l.to ≡ length l.initial.to;
  copied : Copied (144 * l.i) l.log l.to;
}
