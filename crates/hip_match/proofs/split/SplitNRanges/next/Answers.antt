use Rattle.std.proofs.Common.{arith}
use Rattle.hip_match.proofs.PiecesLemmas.{at_most_to-one, at_most_to-end, at_most_to-more, InOrder-le}
use Rattle.hip_match.proofs.split.SplitNRanges.next.Goals as goal

pub returns-then-self-eq1-clause-first : goal.returns-then-self-eq1-clause-first
returns-then-self-eq1-clause-first g c = at_most_to-one _ _ _ _ (omega arith) (omega arith)

pub returns-then-self-eq1-clause-cut : goal.returns-then-self-eq1-clause-cut
returns-then-self-eq1-clause-cut g c = record { start = c.requires.1.start; end = c.requires.1.end; ordered = InOrder-le _ _ _ c.requires.1.in_order }

pub returns-in-Some-clause-first : goal.returns-in-Some-clause-first
returns-in-Some-clause-first g c = at_most_to-more _ _ _ (c.in-Some.start, c.in-Some.end) _ _ (omega arith) c.in-Some.ensures.first

pub returns-in-None-clause-first : goal.returns-in-None-clause-first
returns-in-None-clause-first g c = at_most_to-end _ _ _ _ (omega arith) c.in-None.ensures.first.0
