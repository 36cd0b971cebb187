use Rattle.hip_uses.proofs.Tables.{by-name}
use Rattle.hip_uses.proofs.table.Table.cell.Goals as goal

pub returns : goal.returns
returns g c = by-name (λ cell. cell.now.items) c.args.self.now c.args.row c.args.name.now c.in_ok-column.column c.in_ok-column.ensures c.cell_at.result c.cell_at.ensures.cell
