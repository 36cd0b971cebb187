use Rattle.hip_match_tests.proofs.tests.scripts.follows.Given as goal

abbrev pub invariant-loop-step : goal.invariant-loop-step
invariant-loop-step g l = g.R.Ranges.ready l.ranges
