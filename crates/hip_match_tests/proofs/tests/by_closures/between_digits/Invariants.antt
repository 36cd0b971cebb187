use Rattle.hip_match_tests.proofs.tests.by_closures.between_digits.Given as goal
use Rattle.std.specs.Char.{is_ascii_digit}

abbrev pub ghost-new : goal.ghost-new
ghost-new a = is_ascii_digit
