use Rattle.std.proofs.Common.{◌≡◌}
use Rattle.hip_match_tests.proofs.tests.walks.draws.Given as goal

abbrev pub invariant-loop-end : goal.invariant-loop-end
invariant-loop-end g l = g.R.Ranges.ready l.ranges × (g.R.Ranges.text l.ranges ≡ l.text)
