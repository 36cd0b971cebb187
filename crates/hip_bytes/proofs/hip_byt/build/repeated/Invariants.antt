use Rattle.std.proofs.Common.{◌≡◌, ◌≤◌, ◌<◌, ◌*◌, ◌-◌, nat_le, length}
use Rattle.std.specs.List.{repeat}
use Rattle.hip_raw.specs.Meter.{RisesAtLeast, RisesAtMost}
use Rattle.hip_bytes.specs.declared.kind.TheConstants.{INLINE_CAPACITY}
use Rattle.hip_bytes.proofs.hip_byt.build.repeated.Given as goal

-- the repetitions so far stand there, and there is room for all
abbrev pub invariant-loop-done : goal.invariant-loop-done
invariant-loop-done l = record {
  begun : 0 < l.done;
  within : l.done ≤ l.n;
  items : l.made.items ≡ repeat l.done l.bytes;
  room : l.len ≤ l.made.room;
  place : l.made.in_handle ≡ nat_le l.len INLINE_CAPACITY;
  counted : RisesAtMost l.fn.meter l.meter (l.done * length l.bytes);
  copied : RisesAtLeast l.fn.meter l.meter (l.done * length l.bytes);
}

-- the repetitions that are left
abbrev pub decreases-loop-done : goal.decreases-loop-done
decreases-loop-done l = l.n - l.done
