-- The messages of the faults.
use Rattle.std.specs.Prelude.{ℕ, List, ◌++◌, codes}
use Rattle.std.specs.Fmt.{decimal}
use Rattle.hip_text.specs.declared.faults.BytesFault.{BytesFault}
use Rattle.hip_text.specs.declared.faults.BytesFault.TheVariants.{Memory, NotUtf8}
use Rattle.hip_text.specs.declared.faults.Utf16Fault.{Utf16Fault}
use Rattle.hip_text.specs.declared.faults.Utf16Fault.TheVariants.{Memory as no_memory, Unpaired}

abbrev pub bytes_fault_text : BytesFault → List ℕ
bytes_fault_text Memory = codes "out of memory"
bytes_fault_text NotUtf8 = codes "not UTF-8"

abbrev pub utf16_fault_text : Utf16Fault → List ℕ
utf16_fault_text no_memory = codes "out of memory"
utf16_fault_text (Unpaired at) = codes "unpaired surrogate at " ++ decimal at
