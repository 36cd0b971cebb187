use Rattle.hip_fields.proofs.Fields.{fields-at}
use Rattle.hip_fields.proofs.line.fields_between.Goals as goal

pub returns-then-is_ascii-clause-fields : goal.returns-then-is_ascii-clause-fields
returns-then-is_ascii-clause-fields g c = fields-at c.args.source.now _ _ _ _ _ (rw c.as_str.ensures.items at c.range-line.ensures.value) c.new-pieces.ensures.ranges.rest c.fields_at.ensures.fields
