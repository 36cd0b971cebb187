use Rattle.std.proofs.Common.{◌≡◌, ℕ, ◌-◌, ◌<◌, ◌≤◌, length, get_or}
use Rattle.hip_uses.specs.Token.{class_of}
use Rattle.hip_uses.proofs.tokens.run_end.Given as goal

abbrev pub invariant-loop-end : goal.invariant-loop-end
invariant-loop-end l = (l.start < l.end) × (l.end ≤ length l.text)
    × ((k : ℕ) → l.start ≤ k → k < l.end → class_of (get_or l.text k 0) ≡ l.class) × (l.from ≤ l.end)

abbrev pub decreases-loop-end : goal.decreases-loop-end
decreases-loop-end l = length l.text - l.end
