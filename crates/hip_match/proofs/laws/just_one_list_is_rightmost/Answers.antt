use Rattle.hip_match.proofs.RightLawLemmas.{rightmost-is, rightmost-unique}
use Rattle.hip_match.proofs.laws.just_one_list_is_rightmost.Goals as goal

pub returns-clause-is : goal.returns-clause-is
returns-clause-is g c =
    rightmost-is _ _ (λ a b is. let span = g.met.P.Pattern.spans _ _ a b c.utf8.text is in (span.ordered, span.end.0)) (λ a b d. g.met.P.ReversePattern.one_start _ _ a b d c.utf8.text)

pub returns-clause-only : goal.returns-clause-only
returns-clause-only g c l h =
    rightmost-unique _ (λ a b d. g.met.P.ReversePattern.one_start _ _ a b d c.utf8.text) l _ _ h
    (rightmost-is _ _ (λ a b is. let span = g.met.P.Pattern.spans _ _ a b c.utf8.text is in (span.ordered, span.end.0)) (λ a b d. g.met.P.ReversePattern.one_start _ _ a b d c.utf8.text))
