use Rattle.std.proofs.Common.{◌≡◌}
use Rattle.hip_match_tests.proofs.tests.walks.gives.Given as goal

abbrev pub invariant-loop-piece : goal.invariant-loop-piece
invariant-loop-piece g l = g.R.Ranges.ready l.ranges × (g.R.Ranges.text l.ranges ≡ l.text)
