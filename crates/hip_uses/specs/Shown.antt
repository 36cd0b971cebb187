-- A class by its name, and a text between quotes, as Rust's `Debug` of an enum and of `str` writes them.
use Rattle.std.specs.Prelude.{◌≡◌, ◌⊎◌, ℕ, ◌<◌, ◌≤◌, List, [], ◌∷◌, ◌++◌, false, codes}
use Rattle.std.specs.Char.{encode_utf8}
use Rattle.std.specs.Fmt.{debug_escape, digits}
use Rattle.std.specs.Str.{chars}
use Rattle.hip_uses.specs.declared.tokens.Class.{Class}
use Rattle.hip_uses.specs.declared.tokens.Class.TheVariants.{Word, Digits, Space, Mark}

-- a character by its number, in base 16
abbrev pub shown_code : ℕ → List ℕ
shown_code c = codes "\\u{" ++ digits 16 false c ++ codes "}"

-- an ASCII character stands for itself, or is told with a backslash; any other stands for itself, or is told by its number where it doesn't
-- print. The library doesn't state which do
abbrev pub IsShown : ℕ → List ℕ → Type 0
IsShown c text = (c < 128 → text ≡ debug_escape 34 c) × (128 ≤ c → (text ≡ encode_utf8 c) ⊎ (text ≡ shown_code c))

-- characters one after another
abbrev pub AreShown : List ℕ → List ℕ → Type 0
AreShown [] text = text ≡ []
AreShown (c ∷ cs) text = (first rest : List ℕ) × IsShown c first × AreShown cs rest × (text ≡ first ++ rest)

-- the characters of a text, between two `"`
abbrev pub IsQuoted : List ℕ → List ℕ → Type 0
IsQuoted bytes text = (inner : List ℕ) × AreShown (chars bytes) inner × (text ≡ 34 ∷ inner ++ (34 ∷ []))

abbrev pub class_name : Class → List ℕ
class_name Word = codes "Word"
class_name Digits = codes "Digits"
class_name Space = codes "Space"
class_name Mark = codes "Mark"
