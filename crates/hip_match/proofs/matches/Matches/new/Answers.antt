use Rattle.std.proofs.Common.{length, arith}
use Rattle.std.proofs.lemmas.Str.{IsCharBoundary-start, IsCharBoundary-end}
use Rattle.hip_match.proofs.LeftmostLemmas.{leftmost_between-InOrder}
use Rattle.hip_match.specs.Occurrence.{NoneCrosses}
use Rattle.std.proofs.lemmas.Grind.{common_steps}
use Rattle.hip_match.proofs.matches.Matches.new.Goals as goal

pub returns-clause-ranges : goal.returns-clause-ranges
returns-clause-ranges g c =
    let whole : NoneCrosses (g.P.Pattern.ends c.args.pattern c.args.text.now) (length c.args.text.now) = λ a b is lt. (g.met.P.Pattern.spans _ _ _ _ c.utf8.text is).end.0 in
    grind (arith, common_steps, IsCharBoundary-start, IsCharBoundary-end)

pub returns-clause-between : goal.returns-clause-between
returns-clause-between g c =
    grind (
      arith,
      IsCharBoundary-start,
      IsCharBoundary-end,
      leftmost_between-InOrder (g.P.Pattern.ends c.args.pattern c.args.text.now) 0 (length c.args.text.now) (λ k m is. (g.met.P.Pattern.spans _ _ _ _ c.utf8.text is).ordered),
    )
