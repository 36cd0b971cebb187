-- The answers of calls that read units of UTF-16 as a text (Unicode's UTF-16; Rust's `char::decode_utf16`).
use Rattle.std.specs.Prelude.{◌≡◌, ◌↔◌, ◌+◌, ◌<◌, ◌≤◌, ℕ, suc, List, [], ◌∷◌, ◌++◌, map, length, Option, Some, None, Result, Ok, Err, refl}
use Rattle.std.specs.Char.Escape.{encode_utf16}
use Rattle.std.specs.Char.Utf16.{utf16_chars}
use Rattle.std.specs.List.{All, flat_map}
use Rattle.std.specs.Str.{encode_utf8_all}
use Rattle.hip_bytes.specs.Handle.{Handle}
use Rattle.hip_bytes.specs.Kinds.{HoldsByLength}
use Rattle.hip_text.specs.declared.faults.Utf16Fault.{Utf16Fault}
use Rattle.hip_text.specs.declared.faults.Utf16Fault.TheVariants.{Memory, Unpaired}

-- the units spell these characters, and no surrogate is without a partner
abbrev pub Spells : List ℕ → List ℕ → Type 0
Spells units cs = utf16_chars units ≡ map Some cs

-- the units before this position spell characters, and the one there is a surrogate without a partner
abbrev pub IsFirstUnpaired : List ℕ → ℕ → Type 0
IsFirstUnpaired units i =
    (cs : List ℕ) × (later : List (Option ℕ)) × (utf16_chars units ≡ map Some cs ++ (None ∷ later)) × (i ≡ length (flat_map encode_utf16 cs))

-- the units behind the character that begins with this one
abbrev pub IsBehind : ℕ → List ℕ → List ℕ → Type 0
IsBehind unit after rest =
    (c : ℕ) × (utf16_chars (unit ∷ after) ≡ Some c ∷ utf16_chars rest) × (suc (length after) ≡ length (encode_utf16 c) + length rest)

-- this unit is a surrogate without a partner
abbrev pub IsUnpaired : ℕ → List ℕ → Type 0
IsUnpaired unit after = (later : List (Option ℕ)) × (utf16_chars (unit ∷ after) ≡ None ∷ later)

-- units that spell characters are made a text of them, by length, or memory was refused
abbrev pub Utf16Answers : List ℕ → Result Handle Utf16Fault → Type 0
Utf16Answers units (Ok text) = (cs : List ℕ) × Spells units cs × HoldsByLength text (encode_utf8_all cs)
Utf16Answers units (Err (Unpaired i)) = IsFirstUnpaired units i
Utf16Answers units (Err Memory) = (cs : List ℕ) × Spells units cs

-- a unit has 16 bits; a character is below U+110000 and no surrogate (Unicode's scalar values)
abbrev pub IsUnit : ℕ → Type 0
IsUnit u = u < 0x10000

abbrev pub IsCharacter : ℕ → Type 0
IsCharacter c = (c < 0x110000) × (0xD800 ≤ c → 0xE000 ≤ c)

-- units spell just the characters that, each encoded and put one after another, are the units
abbrev pub SpellsWhatEncodes : List ℕ → List ℕ → Type 0
SpellsWhatEncodes units cs = All IsUnit units → (Spells units cs ↔ (All IsCharacter cs × (flat_map encode_utf16 cs ≡ units)))

-- U+1F600, and a high surrogate before an `a`
pub a_pair : Spells (0xD83D ∷ 0xDE00 ∷ []) (0x1F600 ∷ [])
unfolding utf16_chars
a_pair = refl

pub a_lone_one : IsFirstUnpaired (0xD83D ∷ 0x61 ∷ []) 0
unfolding utf16_chars
a_lone_one = ([], Some 0x61 ∷ [], refl, refl)
