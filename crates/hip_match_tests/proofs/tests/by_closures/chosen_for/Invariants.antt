use Rattle.hip_match_tests.proofs.tests.by_closures.chosen_for.Given as goal
use Rattle.std.specs.Prelude.{◌==◌}

abbrev pub ghost-choose_by : goal.ghost-choose_by
ghost-choose_by a = λ c. c == a.seen.now
