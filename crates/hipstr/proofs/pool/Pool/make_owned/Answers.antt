use Rattle.std.proofs.Common.{refl, rules}
use Rattle.hip_bytes.proofs.Costs.{nothing_copied}
use Rattle.hipstr.proofs.InPlace.{answered-counts, in-place, owned-step, owned-counted}
use Rattle.hipstr.proofs.{Places.spare-kept, Steps.told-fault}
use Rattle.hipstr.specs.{Step.counts_of, declared.command.Command.TheVariants.Owned, declared.command.Reason.TheVariants.NoSlot}
use Rattle.hipstr.proofs.pool.Pool.make_owned.Goals as goal

pub returns-clause-step : goal.returns-clause-step
returns-clause-step g c = owned-step g.B.Backend.SHARES (in-place c.self.inside.slots.items c.args.self.now c.args.t c.index_mut.result.now c.make_owned.new.self c.self.view_is c.in_ok-find.ensures.within c.index_mut.ensures.value) c.make_owned.result c.make_owned.ensures.owned

pub returns-clause-counted : goal.returns-clause-counted
returns-clause-counted g c = owned-counted g.B.Backend.SHARES (in-place c.self.inside.slots.items c.args.self.now c.args.t c.index_mut.result.now c.make_owned.new.self c.self.view_is c.in_ok-find.ensures.within c.index_mut.ensures.value) c.args.meter.now c.make_owned.new.meter c.make_owned.ensures.counted

pub returns-clause-copied : goal.returns-clause-copied
returns-clause-copied g c =
    answered-counts g.B.Backend.SHARES (in-place c.self.inside.slots.items c.args.self.now c.args.t c.index_mut.result.now c.make_owned.new.self c.self.view_is c.in_ok-find.ensures.within c.index_mut.ensures.value)
    (counts_of g.B.Backend.SHARES c.args.self.now (Owned c.args.t)) _ _ _ _ c.make_owned.result _ _ _ refl (λ reason. refl) c.make_owned.ensures.owned c.make_owned.ensures.copied c.make_owned.ensures.counted

pub returns-in_err-find-clause-step : goal.returns-in_err-find-clause-step
returns-in_err-find-clause-step g c =
    told-fault g.B.Backend.SHARES c.args.self.now (Owned c.args.t) _ NoSlot (search rules) c.in_err-find.ensures.missing

pub returns-in_err-find-clause-counted : goal.returns-in_err-find-clause-counted
returns-in_err-find-clause-counted g c = nothing_copied c.args.meter.now _

pub invariant_of-self : goal.invariant_of-self
invariant_of-self g c = spare-kept c.self.inside.slots.items c.self.inside.spare.items c.args.t c.make_owned.new.self c.self.invariant
