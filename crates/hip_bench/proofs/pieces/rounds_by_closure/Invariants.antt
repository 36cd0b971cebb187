use Rattle.std.specs.Prelude.{◌==◌, ◌||◌}
use Rattle.hip_bench.proofs.pieces.rounds_by_closure.Given as goal

abbrev pub ghost-new : goal.ghost-new
ghost-new a = λ c. (c == 44) || (c == 59)
