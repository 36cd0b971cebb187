use Rattle.hip_match.proofs.predicate.CharPred.new.Given as goal
use Rattle.hip_match.proofs.AnswerLemmas.{answers_of}

abbrev pub ghost-choose : goal.ghost-choose
ghost-choose g a = answers_of g.passes
