use Rattle.hip_uses.proofs.Columns.{cells-next}
use Rattle.hip_uses.proofs.tools.column.print_cells.Goals as goal

pub loop-row-preserved : goal.loop-row-preserved
loop-row-preserved g c =
    cells-next c.args.table.now c.loop-row.row c.args.place c.in-Some.cell.now.items _ _ _ c.in-Some.ensures.cell c.loop-row.invariant (rw c.as_str.ensures.items at c.in_ok-print_line.ensures)
