use Rattle.std.proofs.Common.{◌≡◌, ◌+◌, length}
use Rattle.hip_text_tests.proofs.tests.fields.has_fields.Given as goal

abbrev pub invariant-loop : goal.invariant-loop
invariant-loop l = length l.initial.fields.rest ≡ l.counter + length l.fields.rest
