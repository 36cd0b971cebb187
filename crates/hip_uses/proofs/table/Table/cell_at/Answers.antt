use Rattle.std.proofs.Common.{arith}
use Rattle.std.proofs.lemmas.Option.{gets, slice_get-map}
use Rattle.hip_uses.proofs.Tables.{row_of}
use Rattle.hip_uses.proofs.table.Table.cell_at.Goals as goal

pub returns-clause-cell : goal.returns-clause-cell
returns-clause-cell g c = (row_of c.in_ok-fields.fields.now, grind (arith, gets, slice_get-map), grind (arith, gets, slice_get-map))
