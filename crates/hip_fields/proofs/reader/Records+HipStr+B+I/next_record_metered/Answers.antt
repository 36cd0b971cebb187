use Rattle.std.proofs.Common.{slice_range, arith}
use Rattle.hip_fields.specs.Records.{fields_of}
use Rattle.hip_fields.proofs.reader.Records+HipStr+B+I.next_record_metered.Goals as goal

pub returns-clause-first : goal.returns-clause-first
returns-clause-first g c = (fields_of c.self.inside.separator (slice_range c.self.inside.source.now.items c.in_ok-start.start c.in_ok-start.end), grind (arith, c.in_ok-start.ensures.first), grind arith)

pub returns-clause-counted : goal.returns-clause-counted
returns-clause-counted g c = (fields_of c.self.inside.separator (slice_range c.self.inside.source.now.items c.in_ok-start.start c.in_ok-start.end), grind (arith, c.in_ok-start.ensures.first), grind arith)
