use Rattle.std.proofs.Common.{refl, rules}
use Rattle.hipstr.specs.{Step.counts_of, declared.command.Command.TheVariants.Lower, declared.command.Reason.TheVariants.Memory}
use Rattle.hipstr.proofs.InPlace.{in-place, lent-counts, refused-counted, lower-step, lower-refused, write-counted}
use Rattle.hipstr.proofs.pool.Pool.make_lower.Goals as goal

pub returns-in_err-make_lower : goal.returns-in_err-make_lower
returns-in_err-make_lower g c =
    let at = in-place c.self.inside.slots.items c.args.self.now c.args.t c.index_mut.result.now c.make_lower.new.self c.self.view_is c.in_ok-find.ensures.within c.index_mut.ensures.value in
    record {
      step = lower-refused g.B.Backend.SHARES at _ (search rules) c.in_err-make_lower.ensures.write c.in_err-make_lower.ensures.flag;
      counted = write-counted g.B.Backend.SHARES at _ _ c.in_err-make_lower.ensures.counted;
      copied = refused-counted g.B.Backend.SHARES at (counts_of g.B.Backend.SHARES c.args.self.now (Lower c.args.t)) _ Memory _ _ _ refl (search rules) c.in_err-make_lower.ensures.counted;
    }

pub returns : goal.returns
returns g c =
    let at = in-place c.self.inside.slots.items c.args.self.now c.args.t c.index_mut.result.now c.make_lower.new.self c.self.view_is c.in_ok-find.ensures.within c.index_mut.ensures.value in
    record {
      step = lower-step g.B.Backend.SHARES at c.in_ok-make_lower.ensures.write c.in_ok-make_lower.ensures.flag;
      counted = write-counted g.B.Backend.SHARES at _ _ c.in_ok-make_lower.ensures.counted;
      copied = lent-counts g.B.Backend.SHARES at _ _ c.in_ok-make_lower.ensures.copied;
    }
