use Rattle.hip_match_tests.proofs.tests.by_closures.between_wanted.Given as goal
use Rattle.std.specs.Prelude.{◌==◌}
use Rattle.hip_match_tests.specs.contracts.tests.by_closures.fn.between_wanted.new as closure

abbrev pub ghost-new : goal.ghost-new
ghost-new a = λ c. c == (closure.captures a.test).wanted
