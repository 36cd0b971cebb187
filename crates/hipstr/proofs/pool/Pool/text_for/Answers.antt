use Rattle.hipstr.specs.Slot.{state_of}
use Rattle.hipstr.proofs.Trims.{text-for}
use Rattle.hipstr.proofs.pool.Pool.text_for.Goals as goal

pub returns : goal.returns
returns g c =
    let at = text-for c.args.self.now c.args.s c.args.t (state_of c.in_ok-source.source.now) c.text.result c.in_ok-source.ensures.slot c.in_ok-source.ensures.found c.in_ok-find.ensures.found c.in_ok-find.ensures.within
    c.text.ensures.text c.text.ensures.found c.text.ensures.not_text c.text.ensures.reason in
    record { text = at.0; within = at.1; found = at.2; fault = at.3 }
