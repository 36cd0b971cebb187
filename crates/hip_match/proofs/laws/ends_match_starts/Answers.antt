use Rattle.std.proofs.Common.{◌+◌, arith}
use Rattle.hip_match.proofs.RightmostLemmas.{start_among-is, start_among-found}
use Rattle.hip_match.proofs.laws.ends_match_starts.Goals as goal

pub returns : goal.returns
returns g c a j =
    let utf8 = c.utf8.text in (
      λ is. (start_among-is _ 0 (j + 1) j a is).2,
      λ is.
          let within = (g.met.P.Pattern.spans _ _ a j utf8 is).ordered in
          start_among-found _ 0 (j + 1) j a (λ b d. g.met.P.ReversePattern.one_start _ _ b d j utf8) (omega arith) (omega arith) is,
    )
