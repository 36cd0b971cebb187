use Rattle.std.proofs.Common.{codes}
use Rattle.hip_script.specs.Printed.{printed_number}
use Rattle.hip_script.proofs.Printing.{front-of, prints-cut, prints-then}
use Rattle.hip_script.proofs.print.print_popped_byte.Goals as goal

pub returns-in_err-write : goal.returns-in_err-write
returns-in_err-write g c = prints-cut _ _ _ _ c.from_residual.ensures.0 (front-of _ _ (codes "byte ") (printed_number c.args.byte) c.in_err-write.ensures)

pub returns : goal.returns
returns g c = prints-then _ _ _ (codes "byte ") (printed_number c.args.byte) c.print_line.result c.in_ok-write.ensures c.print_line.ensures
