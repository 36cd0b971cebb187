use Rattle.hip_uses.proofs.Columns.{column-within}
use Rattle.hip_uses.proofs.tools.column.write_column_of.Goals as goal

pub print_cells-requires : goal.print_cells-requires
print_cells-requires g c = column-within c.in-Ok.table.header c.args.column.now c.in-Some.place c.in-Some.ensures
