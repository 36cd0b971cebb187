use Rattle.std.proofs.Common.{◌≡◌, ◌+◌, ◌-◌, ◌≤◌, ◌++◌, length, take}
use Rattle.hip_raw.specs.Meter.{RisesAtMost}
use Rattle.hip_raw.proofs.filling.Filling.push_slice.Given as goal

-- a front of the addition stands behind the bytes, and there is room for the rest
abbrev pub invariant-loop-done : goal.invariant-loop-done
invariant-loop-done l = record {
  within : l.done ≤ length l.addition;
  items : l.self.items ≡ l.fn.self.items ++ take l.done l.addition;
  room : length l.fn.self.items + length l.addition ≤ l.self.capacity;
  grown : l.fn.self.capacity ≤ l.self.capacity;
  counted : RisesAtMost l.fn.meter l.meter l.done;
}

-- the bytes that are left
abbrev pub decreases-loop-done : goal.decreases-loop-done
decreases-loop-done l = length l.addition - l.done
