use Rattle.std.proofs.Common.{rules}
use Rattle.hipstr.proofs.InPlace.{in-place, shrink-step, shrink-refused, shrink-counted}
use Rattle.hipstr.proofs.pool.Pool.shrink.Goals as goal

pub returns-in_err-shrink : goal.returns-in_err-shrink
returns-in_err-shrink g c =
    let at = in-place c.self.inside.slots.items c.args.self.now c.args.t c.index_mut.result.now c.shrink.new.self c.self.view_is c.in_ok-find.ensures.within c.index_mut.ensures.value in
    record {
      step = shrink-refused g.B.Backend.SHARES at c.args.least _ (search rules) c.in_err-shrink.ensures.shrink c.in_err-shrink.ensures.flag;
      counted = shrink-counted g.B.Backend.SHARES at c.args.least _ _ c.in_err-shrink.ensures.counted;
    }

pub returns : goal.returns
returns g c =
    let at = in-place c.self.inside.slots.items c.args.self.now c.args.t c.index_mut.result.now c.shrink.new.self c.self.view_is c.in_ok-find.ensures.within c.index_mut.ensures.value in
    record {
      step = shrink-step g.B.Backend.SHARES at c.args.least c.in_ok-shrink.ensures.shrink c.in_ok-shrink.ensures.flag;
      counted = shrink-counted g.B.Backend.SHARES at c.args.least _ _ c.in_ok-shrink.ensures.counted;
    }
