use Rattle.std.proofs.Common.{length, arith}
use Rattle.hip_match.proofs.RightmostLemmas.{rightmost_between-InOrder}
use Rattle.hip_match.proofs.OrderLemmas.{gaps_back-InOrderBack, without_empty_first-InOrderBack, at_most_from-InOrderBack}
use Rattle.hip_match.proofs.laws.ranges_lie_in_reverse_order.Goals as goal

pub returns-clause-matches : goal.returns-clause-matches
returns-clause-matches g c = rightmost_between-InOrder _ 0 (length c.args.text.now) (λ a b is. (g.met.P.Pattern.spans _ _ a b c.utf8.text is).ordered) (omega arith)

pub returns-clause-split : goal.returns-clause-split
returns-clause-split g c = gaps_back-InOrderBack _ 0 _ (returns-clause-matches g c)

pub returns-clause-terminator : goal.returns-clause-terminator
returns-clause-terminator g c = without_empty_first-InOrderBack _ 0 _ (returns-clause-split g c)

pub returns-clause-splitn : goal.returns-clause-splitn
returns-clause-splitn g c = at_most_from-InOrderBack c.args.count _ 0 _ (returns-clause-split g c)
