use Rattle.std.proofs.Common.{length, arith}
use Rattle.hip_match.proofs.LeftmostLemmas.{leftmost_between-InOrder}
use Rattle.hip_match.proofs.OrderLemmas.{gaps-InOrder, ended-InOrder, without_empty_last-InOrder, at_most_to-InOrder}
use Rattle.hip_match.proofs.laws.ranges_lie_in_order.Goals as goal

pub returns-clause-matches : goal.returns-clause-matches
returns-clause-matches g c = leftmost_between-InOrder _ 0 (length c.args.text.now) (λ a b is. (g.met.P.Pattern.spans _ _ a b c.utf8.text is).ordered) (omega arith)

pub returns-clause-split : goal.returns-clause-split
returns-clause-split g c = gaps-InOrder _ 0 _ (returns-clause-matches g c)

pub returns-clause-inclusive : goal.returns-clause-inclusive
returns-clause-inclusive g c = ended-InOrder _ 0 _ (returns-clause-matches g c)

pub returns-clause-terminator : goal.returns-clause-terminator
returns-clause-terminator g c = without_empty_last-InOrder _ 0 _ (returns-clause-split g c)

pub returns-clause-splitn : goal.returns-clause-splitn
returns-clause-splitn g c = at_most_to-InOrder c.args.count _ 0 _ (returns-clause-split g c)
