use Rattle.std.proofs.Common.{◌∙◌}
use Rattle.hip_uses.proofs.Filling.{unknown-at}
use Rattle.hip_uses.proofs.tools.filled.fill_fault.Goals as goal

pub returns-in-Ok : goal.returns-in-Ok
returns-in-Ok g c =
    unknown-at c.args.values.now c.args.text.now.items c.args.template.now.rest.items c.args.template.now.holes.items c.in-Unknown.name c.line_of-line.result c.place_of-place.result _ c.requires.parsed (rw c.in-Unknown.is at c.requires.fails)
    (rw c.as_slice.ensures.value at c.place_of-place.ensures.place) (rw c.as_bytes.ensures.items at c.line_of-line.ensures) (c.in-Ok.ensures.ok ∙ c.as_str.ensures.items)
