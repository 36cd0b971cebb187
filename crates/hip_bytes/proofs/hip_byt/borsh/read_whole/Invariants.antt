use Rattle.std.proofs.Common.{◌≡◌, ℕ, ◌<◌, ◌≤◌, ◌-◌, length, slice_index, take}
use Rattle.std.specs.Io.KnownBytes.{Consumes}
use Rattle.hip_bytes.proofs.hip_byt.borsh.read_whole.Given as goal

-- the front of the room is what was taken, and no read failed
abbrev pub invariant-loop-done : goal.invariant-loop-done
invariant-loop-done g l = record {
  room : length l.room ≡ length l.fn.room;
  within : l.done ≤ length l.room;
  taken : Consumes (g.R.ByteSource.to_come l.fn.source) (g.R.ByteSource.to_come l.source) (take l.done l.room);
  bytes : (i : ℕ) → slice_index l.room i < 256;
  failures : g.R.ByteSource.failures l.source ≡ g.R.ByteSource.failures l.fn.source;
}

-- the room that is left
abbrev pub decreases-loop-done : goal.decreases-loop-done
decreases-loop-done g l = length l.room - l.done
