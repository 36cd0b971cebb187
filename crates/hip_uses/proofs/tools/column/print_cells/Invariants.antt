use Rattle.std.proofs.Common.{take}
use Rattle.std.specs.Io.KnownBytes.{Appends}
use Rattle.hip_uses.specs.Column.{cell_lines}
use Rattle.hip_uses.proofs.tools.column.print_cells.Given as goal

abbrev pub invariant-loop-row : goal.invariant-loop-row
invariant-loop-row g l = Appends (g.W.Write.contents l.fn.out) (g.W.Write.contents l.out) (cell_lines l.place (take l.row l.table.rows))
