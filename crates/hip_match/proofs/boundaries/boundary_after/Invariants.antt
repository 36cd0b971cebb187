use Rattle.std.proofs.Common.{ℕ, ◌<◌, IsCharBoundary}
use Rattle.hip_match.proofs.boundaries.boundary_after.Given as goal

abbrev pub invariant-loop-i : goal.invariant-loop-i
invariant-loop-i l = (k : ℕ) → l.at < k → k < l.i → ¬ IsCharBoundary l.text k
