use Rattle.std.proofs.Common.{◌≡◌, replicate, map}
use Rattle.hipstr.specs.Slot.{state_of, empty_slot}
use Rattle.hipstr.proofs.pool.empty_slots.Given as goal

-- the slots so far are empty
abbrev pub invariant-loop : goal.invariant-loop
invariant-loop g l = map state_of l.slots.items ≡ replicate l.counter empty_slot
