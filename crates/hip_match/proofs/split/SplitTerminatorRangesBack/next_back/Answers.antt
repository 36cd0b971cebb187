use Rattle.std.proofs.Common.{ap, ◌∙◌, arith}
use Rattle.hip_match.specs.Pieces.{without_empty_last}
use Rattle.hip_match.proofs.PiecesLemmas.{without_empty_last-kept, terminator-next_back}
use Rattle.hip_match.proofs.split.SplitTerminatorRangesBack.next_back.Goals as goal

pub returns-then-start-end-clause-last : goal.returns-then-start-end-clause-last
returns-then-start-end-clause-last g c = rw c.if-not-self.false (ap without_empty_last c.in_ok-start.ensures.last ∙ without_empty_last-kept _ _ c.if-start-end.true)

pub returns-clause-last : goal.returns-clause-last
returns-clause-last g c = terminator-next_back _ _ _ _ _ _ c.if-not-self.false c.in_ok-start.ensures.last (omega (arith, c.in_ok-start.ensures.cut.ordered)) c.next_back-3.ensures.last
