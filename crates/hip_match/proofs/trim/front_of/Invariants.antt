use Rattle.std.proofs.Common.{length, ◌-◌, IsCharBoundary}
use Rattle.hip_match.specs.Trims.{IsSequence}
use Rattle.hip_match.proofs.trim.front_of.Given as goal

abbrev pub invariant-loop-end : goal.invariant-loop-end
invariant-loop-end g l = IsCharBoundary l.text l.at × IsSequence (g.P.Pattern.ends l.pattern l.text) 0 l.at

abbrev pub decreases-loop-end : goal.decreases-loop-end
decreases-loop-end g l = length l.initial.text - l.at
