use Rattle.std.proofs.Common.{length, arith}
use Rattle.std.proofs.lemmas.Str.{IsCharBoundary-start, IsCharBoundary-end}
use Rattle.hip_match.proofs.RightmostLemmas.{rightmost_between-InOrder}
use Rattle.hip_match.proofs.rmatches.RMatches.new.Goals as goal

pub returns-clause-between : goal.returns-clause-between
returns-clause-between g c =
    grind (
      arith,
      IsCharBoundary-start,
      IsCharBoundary-end,
      rightmost_between-InOrder (g.P.Pattern.ends c.args.pattern c.args.text.now) 0 (length c.args.text.now) (λ k m is. (g.met.P.Pattern.spans _ _ _ _ c.utf8.text is).ordered),
    )
