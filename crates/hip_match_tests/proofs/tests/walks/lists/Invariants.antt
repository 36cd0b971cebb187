use Rattle.hip_match_tests.proofs.tests.walks.lists.Given as goal

abbrev pub invariant-loop-range : goal.invariant-loop-range
invariant-loop-range g l = g.R.Ranges.ready l.ranges
