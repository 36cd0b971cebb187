use Rattle.std.proofs.Common.{refl, rules}
use Rattle.hipstr.specs.{Step.counts_of, declared.command.Command.TheVariants.Upper, declared.command.Reason.TheVariants.Memory}
use Rattle.hipstr.proofs.InPlace.{in-place, lent-counts, refused-counted, upper-step, upper-refused, write-counted}
use Rattle.hipstr.proofs.pool.Pool.make_upper.Goals as goal

pub returns-in_err-make_upper : goal.returns-in_err-make_upper
returns-in_err-make_upper g c =
    let at = in-place c.self.inside.slots.items c.args.self.now c.args.t c.index_mut.result.now c.make_upper.new.self c.self.view_is c.in_ok-find.ensures.within c.index_mut.ensures.value in
    record {
      step = upper-refused g.B.Backend.SHARES at _ (search rules) c.in_err-make_upper.ensures.write c.in_err-make_upper.ensures.flag;
      counted = write-counted g.B.Backend.SHARES at _ _ c.in_err-make_upper.ensures.counted;
      copied = refused-counted g.B.Backend.SHARES at (counts_of g.B.Backend.SHARES c.args.self.now (Upper c.args.t)) _ Memory _ _ _ refl (search rules) c.in_err-make_upper.ensures.counted;
    }

pub returns : goal.returns
returns g c =
    let at = in-place c.self.inside.slots.items c.args.self.now c.args.t c.index_mut.result.now c.make_upper.new.self c.self.view_is c.in_ok-find.ensures.within c.index_mut.ensures.value in
    record {
      step = upper-step g.B.Backend.SHARES at c.in_ok-make_upper.ensures.write c.in_ok-make_upper.ensures.flag;
      counted = write-counted g.B.Backend.SHARES at _ _ c.in_ok-make_upper.ensures.counted;
      copied = lent-counts g.B.Backend.SHARES at _ _ c.in_ok-make_upper.ensures.copied;
    }
