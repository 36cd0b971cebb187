use Rattle.std.proofs.Common.{◌≡◌, ◌∙◌, Some, ap, arith, get_or, length}
use Rattle.hipstr.specs.Cost.{clone_cost}
use Rattle.std.proofs.lemmas.List.Elements.{All-pop}
use Rattle.hip_uses.specs.Waiting.{Message, message_of, with_message}
use Rattle.hip_uses.proofs.Published.{AreChanged-all, AreChanged-more, rises-little}
use Rattle.hip_uses.proofs.queue.publish_metered.Goals as goal

pub loop-queue-preserved : goal.loop-queue-preserved
loop-queue-preserved g c =
    let popped = All-pop (λ clone. message_of clone ≡ message_of c.args.message.now) c.loop-queue.clones.items c.pop.new.self.items (Some c.in-Some.clone) c.in-Some.ensures.items c.loop-queue.invariant.equal in
    record {
      changed = AreChanged-more (with_message (message_of c.args.message.now)) c.args.queues.now c.loop-queue.queues c.loop-queue.queue-index c.queue-item.result c.push.new.self
          (omega (arith, c.loop-queue.invariant.changed.length_is)) (c.push.ensures ∙ ap (λ (b : Message). with_message b (get_or c.loop-queue.queues c.loop-queue.queue-index c.queue-item.result)) popped.1) c.loop-queue.invariant.changed;
      left = omega (arith, c.in-Some.ensures.len, c.loop-queue.invariant.left);
      equal = popped.0;
    }

pub returns-clause-published : goal.returns-clause-published
returns-clause-published g c = grind (arith, AreChanged-all)

pub returns-clause-shared : goal.returns-clause-shared
returns-clause-shared g c = λ shares.
    rises-little (clone_cost g.B.Backend.SHARES c.args.message.now.kind (length c.args.message.now.items)) _ _ (length c.args.queues.now)
    (c.one_part_copies_little.ensures.clone shares c.args.message.now.kind (length c.args.message.now.items)) c.clones_of.ensures.counted
