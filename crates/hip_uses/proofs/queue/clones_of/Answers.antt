use Rattle.std.proofs.Common.{◌≡◌, length, arith, vec_len}
use Rattle.hipstr.specs.Cost.{clone_cost}
use Rattle.hip_uses.specs.Waiting.{message_of}
use Rattle.hip_uses.proofs.Published.{rises-times, same-message}
use Rattle.hip_uses.proofs.Runs.{All-more}
use Rattle.hip_uses.proofs.queue.clones_of.Goals as goal

pub loop-alloc-preserved : goal.loop-alloc-preserved
loop-alloc-preserved g c = record {
  count = omega (arith, c.push_reserved.ensures.len);
  room = omega (arith, c.push_reserved.ensures.capacity, c.loop-alloc.invariant.room);
  equal = All-more (λ clone. message_of clone ≡ message_of c.args.message.now) c.loop-alloc.clones.items _ c.in_ok-clone_metered.field-0 c.push_reserved.ensures.items (same-message _ c.args.message.now c.in_ok-clone_metered.ensures.clone) c.loop-alloc.invariant.equal;
  counted = rises-times (clone_cost g.B.Backend.SHARES c.args.message.now.kind (length c.args.message.now.items)) c.args.meter.now c.loop-alloc.meter _ (vec_len c.loop-alloc.clones) _ c.push_reserved.ensures.len c.loop-alloc.invariant.counted c.in_ok-clone_metered.ensures.counted;
}
