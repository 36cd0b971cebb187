use Rattle.std.proofs.Common.{length, arith}
use Rattle.hip_match.specs.CharLaws.{char_ends-spans}
use Rattle.hip_match.proofs.LeftmostLemmas.{leftmost_between-InOrder}
use Rattle.hip_match.proofs.OrderLemmas.{gaps-InOrder, ended-InOrder, nonempty-InOrder, lines-InOrder}
use Rattle.hip_match.proofs.laws.lines_and_runs_lie_in_order.Goals as goal

pub returns-clause-lines : goal.returns-clause-lines
returns-clause-lines c =
    lines-InOrder _ _ 0 _ (ended-InOrder _ 0 _ (leftmost_between-InOrder _ 0 (length c.args.text.now) (λ a b is. (char_ends-spans _ _ a b c.utf8.text is).ordered) (omega arith)))

pub returns-clause-unicode : goal.returns-clause-unicode
returns-clause-unicode c =
    nonempty-InOrder _ 0 _ (gaps-InOrder _ 0 _ (leftmost_between-InOrder _ 0 (length c.args.text.now) (λ a b is. (char_ends-spans _ _ a b c.utf8.text is).ordered) (omega arith)))

pub returns-clause-ascii : goal.returns-clause-ascii
returns-clause-ascii c =
    nonempty-InOrder _ 0 _ (gaps-InOrder _ 0 _ (leftmost_between-InOrder _ 0 (length c.args.text.now) (λ a b is. (char_ends-spans _ _ a b c.utf8.text is).ordered) (omega arith)))
