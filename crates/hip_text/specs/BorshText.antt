-- The answers of calls that read a text's Borsh form. (The specification at borsh.io: a text's form is that of its bytes in UTF-8.)
use Rattle.std.specs.Prelude.{ℕ, List, Option, Result, Ok, Err, IsUtf8}
use Rattle.hip_bytes.specs.Borsh.{BorshReads}
use Rattle.hip_bytes.specs.Handle.{Handle}
use Rattle.hip_bytes.specs.declared.borsh_fault.BorshFault.{BorshFault}
use Rattle.hip_bytes.specs.declared.borsh_fault.BorshFault.TheVariants.{Memory, TooLong, Truncated, Io, NotUtf8}

-- bytes are read as by the bytes' call; those of a whole form that aren't UTF-8 are refused
abbrev pub BorshReadsText : Option (List ℕ) → Option (List ℕ) → Result Handle BorshFault → Type 0
BorshReadsText old new (Ok text) = BorshReads old new (Ok text) × IsUtf8 text.items
BorshReadsText old new (Err NotUtf8) = (bytes : Handle) × BorshReads old new (Ok bytes) × ¬ (IsUtf8 bytes.items)
BorshReadsText old new (Err Memory) = BorshReads old new (Err Memory)
BorshReadsText old new (Err TooLong) = BorshReads old new (Err TooLong)
BorshReadsText old new (Err Truncated) = BorshReads old new (Err Truncated)
BorshReadsText old new (Err Io) = BorshReads old new (Err Io)
