use Rattle.std.proofs.Common.{◌≡◌, map, replicate, take}
use Rattle.hipstr.specs.Slot.{empty_slot, state_of}
use Rattle.hipstr.proofs.machine.parts.empty_all.Given as goal

-- the first `i` slots are empty
abbrev pub invariant-loop-i : goal.invariant-loop-i
invariant-loop-i g l = take l.i (map state_of l.slots) ≡ replicate l.i empty_slot
