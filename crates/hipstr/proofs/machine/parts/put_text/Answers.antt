use Rattle.std.proofs.{Common.rules, lemmas.List.map-set}
use Rattle.hipstr.specs.Slot.{state_of}
use Rattle.hipstr.proofs.machine.parts.put_text.Goals as goal

pub offset_bounds-slots-i : goal.offset_bounds-slots-i
offset_bounds-slots-i g c = search rules

pub bounds-slots-i : goal.bounds-slots-i
bounds-slots-i g c = c.requires

pub returns : goal.returns
returns g c = map-set (state_of {B = g.row.B.Denot} {S = g.row.B-Sole.Denot} {P = g.row.B-Extent.Denot}) c.args.slots.now c.args.i _
