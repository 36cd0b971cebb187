use Rattle.std.proofs.Common.{length}
use Rattle.hip_match_bench.proofs.drained.Given as goal

abbrev pub invariant-loop-start : goal.invariant-loop-start
invariant-loop-start g l = g.R.Ranges.ready l.ranges

abbrev pub decreases-loop-start : goal.decreases-loop-start
decreases-loop-start g l = length (g.R.Ranges.rest l.ranges)
