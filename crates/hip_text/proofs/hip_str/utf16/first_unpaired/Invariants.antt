use Rattle.std.proofs.Common.{length}
use Rattle.hip_text.proofs.Utf16.{SpellsTo}
use Rattle.hip_text.proofs.hip_str.utf16.first_unpaired.Given as goal

-- the units so far spell characters
abbrev pub invariant-loop-unit : goal.invariant-loop-unit
invariant-loop-unit l = SpellsTo l.units l.rest

abbrev pub decreases-loop-unit : goal.decreases-loop-unit
decreases-loop-unit l = length l.rest
