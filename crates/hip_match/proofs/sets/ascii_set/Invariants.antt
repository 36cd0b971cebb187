use Rattle.std.proofs.Common.{◌≡◌, ◌==◌, ◌||◌, ℕ, length}
use Rattle.std.specs.List.{list_any}
use Rattle.hip_match.specs.AsciiSets.{in_set}
use Rattle.hip_match.proofs.sets.ascii_set.Given as goal

abbrev pub invariant-loop-rest : goal.invariant-loop-rest
invariant-loop-rest l = (d : ℕ) → (in_set l.found d || list_any (λ c. c == d) l.rest) ≡ list_any (λ c. c == d) l.set

abbrev pub decreases-loop-rest : goal.decreases-loop-rest
decreases-loop-rest l = length l.rest
