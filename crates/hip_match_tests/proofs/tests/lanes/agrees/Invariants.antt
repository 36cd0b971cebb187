use Rattle.hip_match_tests.proofs.tests.lanes.agrees.Given as goal

abbrev pub invariant-loop-turn : goal.invariant-loop-turn
invariant-loop-turn g l = g.R.Ranges.ready l.ranges
