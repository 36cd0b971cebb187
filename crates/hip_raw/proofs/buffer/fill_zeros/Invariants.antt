use Rattle.std.proofs.Common.{◌≡◌, ◌+◌, ◌++◌, length, replicate, take, Some}
use Rattle.hip_raw.proofs.buffer.fill_zeros.Given as goal

abbrev pub invariant-loop-i : goal.invariant-loop-i
invariant-loop-i l =
    (l.cells.at ≡ l.fn.cells.at) × (length l.cells.slots ≡ length l.fn.cells.slots) × (take (l.from + l.i) l.cells.slots ≡ take l.from l.fn.cells.slots ++ replicate l.i (Some 0))
