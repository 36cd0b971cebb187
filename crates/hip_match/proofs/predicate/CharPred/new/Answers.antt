use Rattle.hip_match.proofs.predicate.CharPred.new.Goals as goal
use Rattle.std.proofs.Common.{sym, ◌∙◌}
use Rattle.hip_match.proofs.AnswerLemmas.{answered, answered_ends}

pub returns-clause-can : goal.returns-clause-can
returns-clause-can g c = λ k is.
    let given = c.requires.1 k is in
    (given.0, (λ answer gave. given.1 answer gave ∙ sym (answered g.passes c.choose.result.answers c.choose.ensures k is)))

pub returns-clause-ends : goal.returns-clause-ends
returns-clause-ends g c = answered_ends g.passes _ c.choose.ensures
