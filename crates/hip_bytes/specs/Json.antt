-- The JSON forms of byte strings, texts and OS strings, and the answers of calls that read one. (RFC 8259: an array of numbers, a string,
-- an object. A value is seen as serde_json's `Data` sees it, in the words of its look-ups.)
use Rattle.std.specs.Prelude.{◌≡◌, ℕ, ◌<◌, List, [], ◌∷◌, ◌++◌, Option, Some, None, MatchOption, Result, Ok, Err, length, map, nat_lt, option_and_then, if◌then◌else◌, codes, refl}
use Rattle.std.specs.Str.{bytes_eq}
use Rattle.serde_json.specs.Data.{Data, Items, no_items, item, Members, no_members, member, unsigned, null, number, array, object}
use Rattle.serde_json.specs.Find.{as_array, as_number, as_object, as_str, as_u64}
use Rattle.serde_json.specs.View.{items_of}
use Rattle.hip_bytes.specs.Handle.{Handle}
use Rattle.hip_bytes.specs.Kinds.{HoldsByLength}
use Rattle.hip_bytes.specs.declared.json_fault.JsonFault.{JsonFault}
use Rattle.hip_bytes.specs.declared.json_fault.JsonFault.TheVariants.{Memory, NotUtf8, NotJsonString, NotJsonBytes, NotJsonUnix}
use Rattle.hip_bytes.specs.declared.kind.TheConstants.{INLINE_CAPACITY}

-- the array of these numbers
abbrev pub json_byte : ℕ → Data
json_byte byte = number (unsigned byte)

abbrev pub json_bytes : List ℕ → Data
json_bytes bytes = array (items_of (map json_byte bytes))

-- the object with the one key `Unix`, under which the array stands
abbrev pub json_unix : List ℕ → Data
json_unix bytes = object (member (codes "Unix") (json_bytes bytes) no_members)

-- the byte that a value is, if it is a whole number below 256; a float is none
abbrev pub byte_of : Data → Option ℕ
byte_of value = option_and_then (λ n. if nat_lt n 256 then Some n else None) (option_and_then as_u64 (as_number value))

-- the bytes that the items of an array are
abbrev pub bytes_in : Items → List (Option ℕ)
bytes_in no_items = []
bytes_in (item value later) = byte_of value ∷ bytes_in later

-- each item is a byte, and these they are
abbrev pub AreBytes : Items → List ℕ → Type 0
AreBytes items bytes = bytes_in items ≡ map Some bytes

-- the items before this position are bytes, and the one there is none
abbrev pub IsFirstOther : Items → ℕ → Type 0
IsFirstOther items at = (front : List ℕ) × (later : List (Option ℕ)) × (bytes_in items ≡ map Some front ++ (None ∷ later)) × (at ≡ length front)

-- the value under the one key `Unix` of an object
abbrev pub only_unix : Members → Option Data
only_unix no_members = None
only_unix (member key value no_members) = if bytes_eq key (codes "Unix") then Some value else None
only_unix (member key value (member other more later)) = None

abbrev pub unix_of : Data → Option Data
unix_of value = option_and_then only_unix (as_object value)

-- the items of an array are made a handle, by length, or memory for more than it holds in itself was refused; or the first that is no byte
-- is told
abbrev pub JsonReadsItems : Items → Result Handle JsonFault → Type 0
JsonReadsItems items (Ok handle) = AreBytes items handle.items × HoldsByLength handle handle.items
JsonReadsItems items (Err Memory) = (bytes : List ℕ) × AreBytes items bytes × (INLINE_CAPACITY < length bytes)
JsonReadsItems items (Err (NotJsonBytes (Some at))) = IsFirstOther items at
JsonReadsItems items (Err (NotJsonBytes None)) = ⊥
JsonReadsItems items (Err NotUtf8) = ⊥
JsonReadsItems items (Err NotJsonString) = ⊥
JsonReadsItems items (Err NotJsonUnix) = ⊥

-- the bytes of a string are made a handle, by length
abbrev pub JsonReadsText : List ℕ → Result Handle JsonFault → Type 0
JsonReadsText text (Ok handle) = HoldsByLength handle text
JsonReadsText text (Err fault) = (fault ≡ Memory) × (INLINE_CAPACITY < length text)

-- an array is read by its items, and nothing else is an array of bytes
abbrev pub JsonReadsArray : Data → Result Handle JsonFault → Type 0
JsonReadsArray value result = MatchOption (as_array value) (result ≡ Err (NotJsonBytes None)) (λ items. JsonReadsItems items result)

-- a byte string is read from a string or an array
abbrev pub JsonReadsBytes : Data → Result Handle JsonFault → Type 0
JsonReadsBytes value result = MatchOption (as_str value) (JsonReadsArray value result) (λ text. JsonReadsText text result)

-- a text or a path from a string
abbrev pub JsonReadsString : Data → Result Handle JsonFault → Type 0
JsonReadsString value result = MatchOption (as_str value) (result ≡ Err NotJsonString) (λ text. JsonReadsText text result)

-- an OS string from an array under the one key `Unix`
abbrev pub JsonReadsUnix : Data → Result Handle JsonFault → Type 0
JsonReadsUnix value result = MatchOption (unix_of value) (result ≡ Err NotJsonUnix) (λ inner. JsonReadsArray inner result)

-- `[97,98]` and `[1,256]`
pub two_bytes : AreBytes (items_of (json_byte 97 ∷ json_byte 98 ∷ [])) (97 ∷ 98 ∷ [])
two_bytes = refl

pub too_great : IsFirstOther (items_of (json_byte 1 ∷ json_byte 256 ∷ [])) 1
too_great = (1 ∷ [], [], refl, refl)

-- `{"Unix":null}` has something there, `{"Unix":null,"x":1}` and `{"unix":null}` have nothing
pub one_key : unix_of (object (member (codes "Unix") null no_members)) ≡ Some null
one_key = refl

pub two_keys : unix_of (object (member (codes "Unix") null (member (codes "x") (json_byte 1) no_members))) ≡ None
two_keys = refl

pub another_key : unix_of (object (member (codes "unix") null no_members)) ≡ None
another_key = refl
