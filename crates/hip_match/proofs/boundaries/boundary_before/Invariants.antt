use Rattle.std.proofs.Common.{ℕ, ◌<◌, ◌≤◌, IsCharBoundary}
use Rattle.hip_match.proofs.boundaries.boundary_before.Given as goal

abbrev pub invariant-loop-i : goal.invariant-loop-i
invariant-loop-i l = (0 < l.i) × (l.i ≤ l.at) × ((k : ℕ) → l.i ≤ k → k < l.at → ¬ IsCharBoundary l.text k)
