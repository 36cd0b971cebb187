use Rattle.std.proofs.Common.{◌≡◌, ◌≤◌, length, take}
use Rattle.hip_names.proofs.order.shared_front.Given as goal

abbrev pub invariant-loop-front : goal.invariant-loop-front
invariant-loop-front l = (l.front ≤ length l.left) × (l.front ≤ length l.right) × (take l.front l.left ≡ take l.front l.right)

abbrev pub decreases-loop-front : goal.decreases-loop-front
decreases-loop-front l = l.front
