use Rattle.std.proofs.Common.{◌≡◌, ◌≤◌, ◌-◌, length}
use Rattle.std.specs.Io.KnownBytes.{Consumes}
use Rattle.hip_bytes.proofs.hip_byt.borsh.read_vec.Given as goal

-- the vector is what was taken, and no read failed
abbrev pub invariant-loop-vec : goal.invariant-loop-vec
invariant-loop-vec g l = record {
  within : length l.vec.items ≤ l.len;
  taken : Consumes (g.R.ByteSource.to_come l.fn.source) (g.R.ByteSource.to_come l.source) l.vec.items;
  failures : g.R.ByteSource.failures l.source ≡ g.R.ByteSource.failures l.fn.source;
}

-- the bytes that are left
abbrev pub decreases-loop-vec : goal.decreases-loop-vec
decreases-loop-vec g l = l.len - length l.vec.items
