use Rattle.std.proofs.Common.{sym, arith}
use Rattle.std.proofs.lemmas.Str.{IsCharBoundary-start}
use Rattle.hip_match.proofs.TrimLemmas.{start_of-is}
use Rattle.hip_match.proofs.trim.strip_suffix.Goals as goal

pub returns-clause-cut : goal.returns-clause-cut
returns-clause-cut g c =
    let here = g.met.P.Pattern.spans _ _ _ _ c.utf8.text (start_of-is _ _ _ (sym c.in_ok-start.ensures)) in
    record { start = IsCharBoundary-start _ c.utf8.text; end = here.start; ordered = omega arith }
