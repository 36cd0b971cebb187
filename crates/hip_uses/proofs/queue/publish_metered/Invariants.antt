use Rattle.std.proofs.Common.{◌≡◌, ◌+◌, length, vec_len, All}
use Rattle.hip_uses.specs.Waiting.{message_of, with_message}
use Rattle.hip_uses.proofs.Published.{AreChanged}
use Rattle.hip_uses.proofs.queue.publish_metered.Given as goal

abbrev pub invariant-loop-queue : goal.invariant-loop-queue
invariant-loop-queue g l = record {
  changed : AreChanged (with_message (message_of l.message)) l.fn.queues l.queue-index l.queues;
  left : vec_len l.clones + l.queue-index ≡ length l.fn.queues;
  equal : All (λ clone. message_of clone ≡ message_of l.message) l.clones.items;
}
