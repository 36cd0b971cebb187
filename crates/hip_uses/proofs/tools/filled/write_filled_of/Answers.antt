use Rattle.hip_uses.proofs.Filling.{is-filled}
use Rattle.hip_uses.proofs.tools.filled.write_filled_of.Goals as goal

pub returns-clause-written : goal.returns-clause-written
returns-clause-written g c = (
  c.in-Ok-fill.filled.items,
  is-filled c.args.values.now c.in-Ok.template.holes.items c.args.text.now.items c.in-Ok.template.rest.items c.in-Ok-fill.filled.items c.in-Ok.ensures.parsed c.in-Ok-fill.ensures.known c.in-Ok-fill.ensures.filled,
  rw c.as_bytes.ensures.items at c.in_ok-write.ensures,
)
