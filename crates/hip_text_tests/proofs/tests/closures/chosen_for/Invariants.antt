use Rattle.std.specs.Prelude.{◌==◌}
use Rattle.hip_text_tests.proofs.tests.closures.chosen_for.Given as goal

abbrev pub ghost-choose_by : goal.ghost-choose_by
ghost-choose_by a = λ c. c == a.seen.now
