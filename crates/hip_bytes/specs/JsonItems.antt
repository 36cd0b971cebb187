-- The items of an array that is being read. No public clause cites this module.
use Rattle.std.specs.Prelude.{◌≡◌, ℕ, List, Option, Some, map}
use Rattle.serde_json.specs.View.{view}
use Rattle.serde_json.specs.declared.value.Value.{Value}
use Rattle.hip_bytes.specs.Json.{IsFirstOther, byte_of}
use Rattle.serde_json.specs.Data.{Items}
use Rattle.hip_bytes.specs.declared.json_fault.JsonFault.{JsonFault}
use Rattle.hip_bytes.specs.declared.json_fault.JsonFault.TheVariants.{NotJsonBytes}

-- each item's byte, if it is one
abbrev pub read_items : List Value → List (Option ℕ)
read_items values = map (λ value. byte_of (view value)) values

-- the fault tells the first that is no byte
abbrev pub TellsFirstOther : Items → JsonFault → Type 0
TellsFirstOther items fault = (at : ℕ) × (fault ≡ NotJsonBytes (Some at)) × IsFirstOther items at
