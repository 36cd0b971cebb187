use Rattle.std.proofs.Common.{◌≡◌, length}
use Rattle.std.specs.Cmp.Lexicographic.{slice_cmp}
use Rattle.hip_names.specs.Components.{component_order}
use Rattle.hip_names.specs.Shown.{to_come}
use Rattle.hip_names.proofs.order.walk.Given as goal

abbrev pub invariant-loop-a : goal.invariant-loop-a
invariant-loop-a l = slice_cmp component_order (to_come l.left) (to_come l.right) ≡ slice_cmp component_order (to_come l.initial.left) (to_come l.initial.right)

abbrev pub decreases-loop-a : goal.decreases-loop-a
decreases-loop-a l = length (to_come l.left)
