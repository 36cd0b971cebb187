use Rattle.std.proofs.Common.{length, ◌≤◌, IsCharBoundary}
use Rattle.hip_match.specs.Trims.{IsSequenceBack}
use Rattle.hip_match.proofs.trim.back_of.Given as goal

abbrev pub invariant-loop-start : goal.invariant-loop-start
invariant-loop-start g l = IsCharBoundary l.text l.to × (l.from ≤ l.to) × IsSequenceBack (g.P.Pattern.ends l.pattern l.text) l.to (length l.text)

abbrev pub decreases-loop-start : goal.decreases-loop-start
decreases-loop-start g l = l.to
