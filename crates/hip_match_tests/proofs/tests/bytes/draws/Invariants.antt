use Rattle.hip_match_tests.proofs.tests.bytes.draws.Given as goal

abbrev pub invariant-loop-turn : goal.invariant-loop-turn
invariant-loop-turn g l = g.R.ByteRanges.ready l.ranges
