use Rattle.std.proofs.Common.{take}
use Rattle.std.specs.Io.KnownBytes.{Appends}
use Rattle.hip_script.specs.Printed.{printed_answers}
use Rattle.hip_script.proofs.play.print_answers.Given as goal

abbrev pub invariant-loop-answer : goal.invariant-loop-answer
invariant-loop-answer g l = Appends (g.W.Write.contents l.fn.out) (g.W.Write.contents l.out) (printed_answers (take l.answer-index l.answers))
