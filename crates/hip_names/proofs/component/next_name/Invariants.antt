use Rattle.std.proofs.Common.{◌≡◌, length}
use Rattle.hip_names.specs.Components.{names}
use Rattle.hip_names.proofs.component.next_name.Given as goal

abbrev pub invariant-loop-all : goal.invariant-loop-all
invariant-loop-all l = names l.rest.now ≡ names l.initial.rest.now

abbrev pub decreases-loop-all : goal.decreases-loop-all
decreases-loop-all l = length l.rest.now
