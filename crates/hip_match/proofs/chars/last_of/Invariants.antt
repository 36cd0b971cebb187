use Rattle.std.proofs.Common.{◌≡◌, ℕ, ◌≤◌, ◌<◌, Some, IsCharBoundary}
use Rattle.hip_match.specs.Characters.{char_ends}
use Rattle.hip_match.proofs.chars.last_of.Given as goal

abbrev pub invariant-loop-c : goal.invariant-loop-c
invariant-loop-c g l =
    IsCharBoundary l.text l.end × (l.end ≤ l.to)
    × ((a b : ℕ) → char_ends (g.S.CharSet.belongs l.set) l.text a ≡ Some b → l.end < b → l.to < b)

abbrev pub decreases-loop-c : goal.decreases-loop-c
decreases-loop-c g l = l.end
