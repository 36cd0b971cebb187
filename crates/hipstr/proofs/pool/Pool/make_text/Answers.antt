use Rattle.std.proofs.Common.{Option, ap, rules}
use Rattle.std.specs.Option.{option_or}
use Rattle.hipstr.proofs.{InPlace.in-place, InPlace.text-step, Places.spare-kept, Steps.told-fault}
use Rattle.hipstr.specs.{Slot.state_at, Step.text_fault, declared.command.Command.TheVariants.Text, declared.command.Reason.Reason, declared.command.Reason.TheVariants.NoSlot}
use Rattle.hipstr.proofs.pool.Pool.make_text.Goals as goal

pub returns-in_err-find : goal.returns-in_err-find
returns-in_err-find g c =
    record {
      step = told-fault g.B.Backend.SHARES c.args.self.now (Text c.args.t) _ NoSlot (search rules)
          (ap (λ (none : Option Reason). option_or none (text_fault (state_at c.args.self.now c.args.t))) c.in_err-find.ensures.missing);
    }

pub returns : goal.returns
returns g c = record { step = text-step g.B.Backend.SHARES (in-place c.self.inside.slots.items c.args.self.now c.args.t c.index_mut.result.now c.make_text.new.self c.self.view_is c.in_ok-find.ensures.within c.index_mut.ensures.value) c.make_text.result c.make_text.ensures.text }

pub invariant_of-self : goal.invariant_of-self
invariant_of-self g c = spare-kept c.self.inside.slots.items c.self.inside.spare.items c.args.t c.make_text.new.self c.self.invariant
