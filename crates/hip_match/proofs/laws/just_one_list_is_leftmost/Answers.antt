use Rattle.hip_match.proofs.LawLemmas.{leftmost-is, leftmost-unique}
use Rattle.hip_match.proofs.laws.just_one_list_is_leftmost.Goals as goal

pub returns-clause-is : goal.returns-clause-is
returns-clause-is g c = leftmost-is _ _ (λ a b is. let span = g.met.P.Pattern.spans _ _ a b c.utf8.text is in (span.ordered, span.end.0))

pub returns-clause-only : goal.returns-clause-only
returns-clause-only g c l h = leftmost-unique _ l _ 0 h (leftmost-is _ _ (λ a b is. let span = g.met.P.Pattern.spans _ _ a b c.utf8.text is in (span.ordered, span.end.0)))
