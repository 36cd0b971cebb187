use Rattle.std.proofs.Common.{codes, subst}
use Rattle.hip_script.specs.Printed.{printed_number}
use Rattle.hip_script.specs.Prints.{Prints}
use Rattle.hip_script.proofs.Printing.{front-of, prints-cut, prints-then}
use Rattle.hip_script.proofs.print.print_popped_char.Goals as goal

pub returns-in_err-write : goal.returns-in_err-write
returns-in_err-write g c = prints-cut _ _ _ _ c.from_residual.ensures.0 (front-of _ _ (codes "char ") (printed_number c.args.c) c.in_err-write.ensures)

pub returns : goal.returns
returns g c = prints-then _ _ _ (codes "char ") (printed_number c.args.c) c.print_line.result c.in_ok-write.ensures (subst (λ n. Prints (g.W.Write.contents c.write.new.out) (g.W.Write.contents c.print_line.new.out) (printed_number n) c.print_line.result) c.from.ensures c.print_line.ensures)
