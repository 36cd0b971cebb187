use Rattle.std.specs.Char.{is_ascii_digit}
use Rattle.hipstr_tests.proofs.user.chosen_digits.Given as goal

abbrev pub ghost-choose_by : goal.ghost-choose_by
ghost-choose_by a = is_ascii_digit
