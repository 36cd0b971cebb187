use Rattle.std.proofs.Common.{[]}
use Rattle.hip_script.specs.Printed.{printed_answer}
use Rattle.hip_script.proofs.Printing.{front-within, prints-cut}
use Rattle.hip_script.proofs.play.print_answers.Goals as goal

pub returns-in_err-print_answer-clause-prints : goal.returns-in_err-print_answer-clause-prints
returns-in_err-print_answer-clause-prints g c =
    prints-cut _ _ _ _ c.from_residual.ensures.0
    (front-within printed_answer [] c.args.answers.now c.loop-answer.answer-index _ _ _ _ c.loop-answer-test.true c.loop-answer.invariant c.in_err-print_answer.ensures)
