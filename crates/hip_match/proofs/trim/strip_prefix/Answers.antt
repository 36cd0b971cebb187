use Rattle.std.proofs.Common.{sym}
use Rattle.std.proofs.lemmas.Str.{IsCharBoundary-end, IsCharBoundary-start}
use Rattle.hip_match.proofs.trim.strip_prefix.Goals as goal

pub match_at-requires : goal.match_at-requires
match_at-requires g c = record { can = c.requires; boundary = IsCharBoundary-start _ c.utf8.text }

pub returns-clause-cut : goal.returns-clause-cut
returns-clause-cut g c =
    let here = g.met.P.Pattern.spans _ _ _ _ c.utf8.text (sym c.in_ok-end.ensures) in
    record { start = here.end; end = IsCharBoundary-end _; ordered = here.end.0 }
