use Rattle.hip_uses.specs.Column.{ColumnFails}
use Rattle.hip_uses.proofs.ToolLaws.{tells-after}
use Rattle.hip_uses.proofs.tools.column.write_column.Goals as goal

pub returns-clause-read : goal.returns-clause-read
returns-clause-read g c = tells-after (ColumnFails c.args.column.now) _ c.in_ok-text.text.items _ c.in_ok-text.ensures.read c.write_column_of.ensures.fault
