use Rattle.std.proofs.Common.{◌≡◌, ◌-◌, ◌*◌, ◌≤◌, vec_len, vec_capacity, All, length}
use Rattle.hip_uses.specs.Waiting.{message_of}
use Rattle.hipstr.specs.Cost.{clone_cost}
use Rattle.hipstr.specs.Meter.{RisesAtMost}
use Rattle.hip_uses.proofs.queue.clones_of.Given as goal

abbrev pub invariant-loop-alloc : goal.invariant-loop-alloc
invariant-loop-alloc g l = record {
  count : vec_len l.clones ≤ l.count;
  room : l.count ≤ vec_capacity l.clones;
  equal : All (λ clone. message_of clone ≡ message_of l.message) l.clones.items;
  counted : RisesAtMost l.fn.meter l.meter (vec_len l.clones * clone_cost g.B.Backend.SHARES l.message.kind (length l.message.items));
}

abbrev pub decreases-loop-alloc : goal.decreases-loop-alloc
decreases-loop-alloc g l = l.count - vec_len l.clones
