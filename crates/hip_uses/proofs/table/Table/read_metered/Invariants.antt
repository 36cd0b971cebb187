use Rattle.std.proofs.Common.{◌≡◌, ℕ, ◌<◌, get_or, vec_len, Vec, Global}
use Rattle.hipstr.specs.Handle.{Handle}
use Rattle.hip_uses.proofs.table.Table.read_metered.Given as goal

abbrev pub invariant-loop-i : goal.invariant-loop-i
invariant-loop-i g l = (k : ℕ) (other : Vec Handle Global) → k < l.i → vec_len (get_or l.row-items k other) ≡ vec_len l.header
