use Rattle.std.proofs.Common.{◌↔◌, length}
use Rattle.hip_names.specs.PathParts.{BeginWith}
use Rattle.hip_names.specs.Shown.{to_come}
use Rattle.hip_names.specs.Components.{components}
use Rattle.hip_names.proofs.affix.begins_with.Given as goal

abbrev pub invariant-loop-want : goal.invariant-loop-want
invariant-loop-want l = BeginWith (to_come l.components) (to_come l.wanted) ↔ BeginWith (components l.path) (components l.front)

abbrev pub decreases-loop-want : goal.decreases-loop-want
decreases-loop-want l = length (to_come l.wanted)
