use Rattle.std.proofs.Common.{length, rules}
use Rattle.hip_bytes.proofs.Costs.{nothing_copied}
use Rattle.hipstr.proofs.{Amortised.pushed-in_place, Places.spare-kept, Steps.first-fault, Steps.told-fault}
use Rattle.hipstr.proofs.InPlace.{in-place, push-step, push-counted}
use Rattle.hipstr.specs.{Slot.state_at, Step.addition_fault, Step.slot_fault, declared.command.Command.TheVariants.Push, declared.command.Reason.TheVariants.NoSlot}
use Rattle.hipstr.proofs.pool.Pool.push.Goals as goal

pub returns-clause-step : goal.returns-clause-step
returns-clause-step g c = push-step g.B.Backend.SHARES (in-place c.self.inside.slots.items c.args.self.now c.args.t c.index_mut.result.now c.push.new.self c.self.view_is c.in_ok-find.ensures.within c.index_mut.ensures.value) c.args.addition c.push.result c.push.ensures.push

pub returns-clause-paid : goal.returns-clause-paid
returns-clause-paid g c = pushed-in_place g.B.Backend.SHARES (in-place c.self.inside.slots.items c.args.self.now c.args.t c.index_mut.result.now c.push.new.self c.self.view_is c.in_ok-find.ensures.within c.index_mut.ensures.value) (length c.args.addition.now) c.args.meter.now c.push.new.meter c.push.ensures.paid

pub returns-clause-counted : goal.returns-clause-counted
returns-clause-counted g c = push-counted g.B.Backend.SHARES (in-place c.self.inside.slots.items c.args.self.now c.args.t c.index_mut.result.now c.push.new.self c.self.view_is c.in_ok-find.ensures.within c.index_mut.ensures.value) c.args.addition c.args.meter.now c.push.new.meter c.push.ensures.counted

pub returns-in_err-find-clause-step : goal.returns-in_err-find-clause-step
returns-in_err-find-clause-step g c =
    told-fault g.B.Backend.SHARES c.args.self.now (Push c.args.t c.args.addition) _ NoSlot (search rules) (first-fault (slot_fault c.args.self.now c.args.t) (addition_fault (state_at c.args.self.now c.args.t) c.args.addition.now) NoSlot c.in_err-find.ensures.missing)

pub returns-in_err-find-clause-counted : goal.returns-in_err-find-clause-counted
returns-in_err-find-clause-counted g c = nothing_copied c.args.meter.now _

pub invariant_of-self : goal.invariant_of-self
invariant_of-self g c = spare-kept c.self.inside.slots.items c.self.inside.spare.items c.args.t c.push.new.self c.self.invariant
