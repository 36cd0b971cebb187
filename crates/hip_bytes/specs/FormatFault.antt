-- The texts of forms that weren't written or read.
use Rattle.std.specs.Prelude.{ℕ, List, ◌++◌, Some, None, codes}
use Rattle.std.specs.Fmt.{decimal}
use Rattle.hip_bytes.specs.declared.borsh_fault.BorshFault.{BorshFault}
use Rattle.hip_bytes.specs.declared.borsh_fault.BorshFault.TheVariants.{Memory, TooLong, Truncated, Io, NotUtf8}
use Rattle.hip_bytes.specs.declared.json_fault.JsonFault.{JsonFault}
use Rattle.hip_bytes.specs.declared.json_fault.JsonFault.TheVariants.{Memory as no_memory, NotUtf8 as no_text, NotJsonString, NotJsonBytes, NotJsonUnix}

-- the message of the fault
abbrev pub borsh_fault_text : BorshFault → List ℕ
borsh_fault_text Memory = codes "out of memory"
borsh_fault_text TooLong = codes "too long"
borsh_fault_text Truncated = codes "truncated"
borsh_fault_text Io = codes "input or output failed"
borsh_fault_text NotUtf8 = codes "not UTF-8"

-- the message of the fault
abbrev pub json_fault_text : JsonFault → List ℕ
json_fault_text no_memory = codes "out of memory"
json_fault_text no_text = codes "not UTF-8"
json_fault_text NotJsonString = codes "not a JSON string"
json_fault_text (NotJsonBytes None) = codes "not a JSON array of bytes"
json_fault_text (NotJsonBytes (Some at)) = codes "not a byte at " ++ (decimal at ++ codes " of a JSON array")
json_fault_text NotJsonUnix = codes "not a JSON object with the one key Unix"
