use Rattle.std.proofs.Common.{refl, rules}
use Rattle.hip_bytes.proofs.Costs.{nothing_copied}
use Rattle.hipstr.proofs.InPlace.{answered-counts, in-place, set-step, set-counted}
use Rattle.hipstr.proofs.{Places.spare-kept, Steps.first-fault, Steps.told-fault}
use Rattle.hipstr.specs.{Slot.state_at, Step.counts_of, Step.set_fault, Step.slot_fault, declared.command.Command.TheVariants.Set, declared.command.Reason.TheVariants.NoSlot}
use Rattle.hipstr.proofs.pool.Pool.set.Goals as goal

pub returns-clause-step : goal.returns-clause-step
returns-clause-step g c = set-step g.B.Backend.SHARES (in-place c.self.inside.slots.items c.args.self.now c.args.t c.index_mut.result.now c.set.new.self c.self.view_is c.in_ok-find.ensures.within c.index_mut.ensures.value) c.args.i c.args.byte c.set.result c.set.ensures.set

pub returns-clause-counted : goal.returns-clause-counted
returns-clause-counted g c = set-counted g.B.Backend.SHARES (in-place c.self.inside.slots.items c.args.self.now c.args.t c.index_mut.result.now c.set.new.self c.self.view_is c.in_ok-find.ensures.within c.index_mut.ensures.value) c.args.i c.args.byte c.args.meter.now c.set.new.meter c.set.ensures.counted

pub returns-clause-copied : goal.returns-clause-copied
returns-clause-copied g c =
    answered-counts g.B.Backend.SHARES (in-place c.self.inside.slots.items c.args.self.now c.args.t c.index_mut.result.now c.set.new.self c.self.view_is c.in_ok-find.ensures.within c.index_mut.ensures.value)
    (counts_of g.B.Backend.SHARES c.args.self.now (Set c.args.t c.args.i c.args.byte)) _ _ _ _ c.set.result _ _ _ refl (λ reason. refl) c.set.ensures.set c.set.ensures.copied c.set.ensures.counted

pub returns-in_err-find-clause-step : goal.returns-in_err-find-clause-step
returns-in_err-find-clause-step g c =
    told-fault g.B.Backend.SHARES c.args.self.now (Set c.args.t c.args.i c.args.byte) _ NoSlot (search rules) (first-fault (slot_fault c.args.self.now c.args.t) (set_fault (state_at c.args.self.now c.args.t) c.args.i) NoSlot c.in_err-find.ensures.missing)

pub returns-in_err-find-clause-counted : goal.returns-in_err-find-clause-counted
returns-in_err-find-clause-counted g c = nothing_copied c.args.meter.now _

pub invariant_of-self : goal.invariant_of-self
invariant_of-self g c = spare-kept c.self.inside.slots.items c.self.inside.spare.items c.args.t c.set.new.self c.self.invariant
