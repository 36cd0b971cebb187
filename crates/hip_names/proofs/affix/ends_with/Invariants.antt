use Rattle.std.proofs.Common.{◌↔◌, length}
use Rattle.hip_names.specs.PathParts.{EndWith}
use Rattle.hip_names.specs.Shown.{to_come}
use Rattle.hip_names.specs.Components.{components}
use Rattle.hip_names.proofs.affix.ends_with.Given as goal

abbrev pub invariant-loop-want : goal.invariant-loop-want
invariant-loop-want l = EndWith (to_come l.components) (to_come l.wanted) ↔ EndWith (components l.path) (components l.back)

abbrev pub decreases-loop-want : goal.decreases-loop-want
decreases-loop-want l = length (to_come l.wanted)
