use Rattle.hipstr.proofs.InPlace.{in-place, clear-counted, clear-step}
use Rattle.hipstr.proofs.pool.Pool.clear.Goals as goal

pub returns : goal.returns
returns g c =
    let at = in-place c.self.inside.slots.items c.args.self.now c.args.t c.index_mut.result.now c.clear.new.self c.self.view_is c.in_ok-find.ensures.within c.index_mut.ensures.value in
    record {
      step = clear-step g.B.Backend.SHARES at c.clear.ensures.shortened c.clear.ensures.flag;
      counted = clear-counted g.B.Backend.SHARES at _ _ c.clear.ensures.counted;
    }
