use Rattle.std.proofs.Common.{◌≢◌, ℕ, ◌<◌, Some, slice_get}
use Rattle.hip_uses.specs.Cells.{texts_of}
use Rattle.hip_uses.proofs.table.Table.column.Given as goal

abbrev pub invariant-loop-place : goal.invariant-loop-place
invariant-loop-place g l = (k : ℕ) → k < l.place → slice_get (texts_of l.column-items) k ≢ Some l.name
