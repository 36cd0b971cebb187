-- The answers of calls that make the JSON string of a path (RFC 8259: a string is a text). A value is seen as serde_json's `Data` sees it.
use Rattle.std.specs.Prelude.{◌≡◌, ℕ, List, Result, Ok, Err, IsUtf8}
use Rattle.serde_json.specs.Data.{string}
use Rattle.serde_json.specs.View.{view}
use Rattle.serde_json.specs.declared.value.Value.{Value}
use Rattle.hip_bytes.specs.declared.json_fault.JsonFault.{JsonFault}
use Rattle.hip_bytes.specs.declared.json_fault.JsonFault.TheVariants.{Memory, NotUtf8, NotJsonString, NotJsonBytes, NotJsonUnix}

-- bytes that are UTF-8 are made a string, or memory was refused; any others are refused
abbrev pub JsonPathAnswers : List ℕ → Result Value JsonFault → Type 0
JsonPathAnswers path (Ok value) = IsUtf8 path × (view value ≡ string path)
JsonPathAnswers path (Err NotUtf8) = ¬ (IsUtf8 path)
JsonPathAnswers path (Err Memory) = IsUtf8 path
JsonPathAnswers path (Err NotJsonString) = ⊥
JsonPathAnswers path (Err (NotJsonBytes at)) = ⊥
JsonPathAnswers path (Err NotJsonUnix) = ⊥
