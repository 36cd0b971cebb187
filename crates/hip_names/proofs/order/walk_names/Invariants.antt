use Rattle.std.proofs.Common.{◌≡◌, length}
use Rattle.std.specs.Cmp.Lexicographic.{slice_cmp}
use Rattle.hip_names.specs.Components.{component_order, names}
use Rattle.hip_names.proofs.order.walk_names.Given as goal

abbrev pub invariant-loop-a : goal.invariant-loop-a
invariant-loop-a l = slice_cmp component_order (names l.left) (names l.right) ≡ slice_cmp component_order (names l.initial.left) (names l.initial.right)

abbrev pub decreases-loop-a : goal.decreases-loop-a
decreases-loop-a l = length (names l.left)
