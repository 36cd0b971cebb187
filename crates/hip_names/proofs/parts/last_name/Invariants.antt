use Rattle.std.proofs.Common.{◌≡◌, ◌<◌, ◌≤◌, length, get_or, take}
use Rattle.std.specs.Path.{slash}
use Rattle.hip_names.specs.Components.{names}
use Rattle.hip_names.proofs.parts.last_name.Given as goal

abbrev pub invariant-loop-end : goal.invariant-loop-end
invariant-loop-end l = (l.end ≤ length l.path) × (0 < l.end → l.end < length l.path → get_or l.path l.end 0 ≡ slash) × (names (take l.end l.path) ≡ names l.path)

abbrev pub decreases-loop-end : goal.decreases-loop-end
decreases-loop-end l = l.end
