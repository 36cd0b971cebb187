use Rattle.std.proofs.Common.{◌≡◌, ◌≤◌, ◌-◌, length, take}
use Rattle.std.specs.Io.KnownBytes.{Appends}
use Rattle.hip_bytes.proofs.hip_byt.borsh.write_whole.Given as goal

-- a front was written, and no write failed
abbrev pub invariant-loop-done : goal.invariant-loop-done
invariant-loop-done g l = record {
  within : l.done ≤ length l.bytes;
  written : Appends (g.W.ByteSink.written l.fn.sink) (g.W.ByteSink.written l.sink) (take l.done l.bytes);
  failures : g.W.ByteSink.failures l.sink ≡ g.W.ByteSink.failures l.fn.sink;
}

-- the bytes that are left
abbrev pub decreases-loop-done : goal.decreases-loop-done
decreases-loop-done g l = length l.bytes - l.done
