use Rattle.std.proofs.Common.{◌∙◌, ap, map}
use Rattle.hipstr.specs.Slot.{state_of}
use Rattle.hipstr.proofs.Places.{slot-found, slot-read}
use Rattle.hipstr.proofs.pool.Pool.slot.Goals as goal

pub returns : goal.returns
returns g c =
    let view = ap (map (state_of {B = g.row.B.Denot} {S = g.row.B-Sole.Denot} {P = g.row.B-Extent.Denot})) c.deref.ensures.value ∙ c.self.view_is in
    record {
      found = slot-found c.deref.result.now c.args.self.now c.args.i c.get.result view c.get.ensures.lookup;
      slot = slot-read c.deref.result.now c.args.self.now c.args.i c.get.result view c.get.ensures.lookup;
    }
