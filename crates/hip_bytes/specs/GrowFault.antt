-- The text of a list that wasn't made.
use Rattle.std.specs.Prelude.{ℕ, List, codes}
use Rattle.hip_bytes.specs.declared.grow_fault.GrowFault.{GrowFault}
use Rattle.hip_bytes.specs.declared.grow_fault.GrowFault.TheVariants.{Memory, TooLong}

-- the message of the fault
abbrev pub grow_fault_text : GrowFault → List ℕ
grow_fault_text Memory = codes "out of memory"
grow_fault_text TooLong = codes "too long"
