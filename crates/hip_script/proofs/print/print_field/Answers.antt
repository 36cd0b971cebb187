use Rattle.std.proofs.Common.{codes}
use Rattle.hip_script.specs.Printed.{printed_literal}
use Rattle.hip_script.proofs.Printing.{front-of, prints-cut, prints-then}
use Rattle.hip_script.proofs.print.print_field.Goals as goal

pub returns-in_err-write : goal.returns-in_err-write
returns-in_err-write g c = prints-cut _ _ _ _ c.from_residual.ensures.0 (front-of _ _ (codes " ") (printed_literal c.args.field.now) c.in_err-write.ensures)

pub returns : goal.returns
returns g c = prints-then _ _ _ (codes " ") (printed_literal c.args.field.now) c.print_literal.result c.in_ok-write.ensures c.print_literal.ensures
