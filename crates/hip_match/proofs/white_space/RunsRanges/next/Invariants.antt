use Rattle.std.proofs.Common.{◌≡◌, length}
use Rattle.hip_match.specs.Runs.{nonempty}
use Rattle.hip_match.proofs.white_space.RunsRanges.next.Given as goal

abbrev pub invariant-loop-start : goal.invariant-loop-start
invariant-loop-start g l =
    g.R.Ranges.ready l.self.ranges × (g.R.Ranges.text l.self.ranges ≡ g.R.Ranges.text l.initial.self.ranges)
    × (nonempty (g.R.Ranges.rest l.initial.self.ranges) ≡ nonempty (g.R.Ranges.rest l.self.ranges))

abbrev pub decreases-loop-start : goal.decreases-loop-start
decreases-loop-start g l = length (g.R.Ranges.rest l.self.ranges)
