use Rattle.std.proofs.Common.{rules}
use Rattle.hip_bytes.proofs.Costs.{nothing_copied}
use Rattle.hipstr.proofs.InPlace.{in-place, truncate-step, truncate-counted}
use Rattle.hipstr.proofs.{Places.spare-kept, Steps.first-fault, Steps.told-fault}
use Rattle.hipstr.specs.{Slot.state_at, Step.end_fault, Step.slot_fault, declared.command.Command.TheVariants.Truncate, declared.command.Reason.TheVariants.NoSlot}
use Rattle.hipstr.proofs.pool.Pool.truncate.Goals as goal

pub returns-clause-step : goal.returns-clause-step
returns-clause-step g c = truncate-step g.B.Backend.SHARES (in-place c.self.inside.slots.items c.args.self.now c.args.t c.index_mut.result.now c.truncate.new.self c.self.view_is c.in_ok-find.ensures.within c.index_mut.ensures.value) c.args.n c.truncate.result c.truncate.ensures.shortened

pub returns-clause-counted : goal.returns-clause-counted
returns-clause-counted g c = truncate-counted g.B.Backend.SHARES (in-place c.self.inside.slots.items c.args.self.now c.args.t c.index_mut.result.now c.truncate.new.self c.self.view_is c.in_ok-find.ensures.within c.index_mut.ensures.value) c.args.n c.args.meter.now c.truncate.new.meter c.truncate.ensures.counted

pub returns-in_err-find-clause-step : goal.returns-in_err-find-clause-step
returns-in_err-find-clause-step g c =
    told-fault g.B.Backend.SHARES c.args.self.now (Truncate c.args.t c.args.n) _ NoSlot (search rules) (first-fault (slot_fault c.args.self.now c.args.t) (end_fault (state_at c.args.self.now c.args.t) c.args.n) NoSlot c.in_err-find.ensures.missing)

pub returns-in_err-find-clause-counted : goal.returns-in_err-find-clause-counted
returns-in_err-find-clause-counted g c = nothing_copied c.args.meter.now _

pub invariant_of-self : goal.invariant_of-self
invariant_of-self g c = spare-kept c.self.inside.slots.items c.self.inside.spare.items c.args.t c.truncate.new.self c.self.invariant
