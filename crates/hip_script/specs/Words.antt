-- The words of a line (docs/PROGRAM.md, "Words"), and what single words say.
use Rattle.std.specs.Prelude.{◌≡◌, ℕ, ◌==◌, ◌&&◌, ◌^◌, nat_lt, ◌*◌, ◌+◌, ◌||◌, List, [], ◌∷◌, Option, option_and_then, None, Some, codes, if◌then◌else◌, refl}
use Rattle.std.specs.Char.{digit_value, is_ascii_hexdigit}
use Rattle.std.specs.Option.{option_map}
use Rattle.std.specs.Str.{all_ascii_digits, bytes_eq}
use Rattle.std.specs.Str.Parse.{digits_value_after}
use Rattle.std.specs.declared.ops.Bound.{Bound}
use Rattle.std.specs.declared.ops.Bound.TheVariants.{Included, Excluded, Unbounded}
use Rattle.hipstr.specs.declared.End.{End}
use Rattle.hipstr.specs.declared.End.TheVariants.{Front, Back}

infixl 10 ◌>>=◌
abbrev pub ◌>>=◌ : {A B : Type 0} → Option A → (A → Option B) → Option B
o >>= f = option_and_then f o

-- the rest of a line: the bytes from its next word on, or nothing behind its last one
abbrev pub Left : Type 0
Left = Option (List ℕ)

-- a word ends at a space (32), and what stands behind that is left
abbrev pub with_byte : ℕ → List ℕ × Left → List ℕ × Left
with_byte b found = (b ∷ found.0, found.1)

unfoldable pub next_word : List ℕ → List ℕ × Left
next_word [] = ([], None)
next_word (b ∷ bs) = if b == 32 then ([], Some bs) else with_byte b (next_word bs)

-- the next word, and what is left behind it
abbrev pub word_at : Left → Option (List ℕ × Left)
word_at None = None
word_at (Some text) = Some (next_word text)

-- the value of the next word, and the rest of the line behind it
abbrev pub said_at : {A : Type 0} → (List ℕ → Option A) → Left → Option (A × Left)
said_at says left = do
  word ← word_at left
  said ← says word.0
  Some (said, word.1)

-- A number is digits, one or more, and below 2 ^ 64. This is the number that digits say behind those of n
unfoldable pub number_after : ℕ → List ℕ → Option ℕ
number_after n digits =
    if all_ascii_digits digits && nat_lt (digits_value_after 10 n digits) (2 ^ 64) then Some (digits_value_after 10 n digits) else None

abbrev pub number_of : List ℕ → Option ℕ
number_of [] = None
number_of (digit ∷ digits) = number_after 0 (digit ∷ digits)

-- a number that is at most 255
abbrev pub byte_of : List ℕ → Option ℕ
byte_of word = do
  number ← number_of word
  if nat_lt number 256 then Some number else None

-- A range is written as in Rust: `a..b`, `a..=b`, `a..`, `..b`, `..=b` or `..`. What stands before the first dot (46), and what begins there
unfoldable pub at_dot : List ℕ → List ℕ × List ℕ
at_dot [] = ([], [])
at_dot (b ∷ bs) = if b == 46 then ([], b ∷ bs) else (b ∷ (at_dot bs).0, (at_dot bs).1)

abbrev pub low_of : List ℕ → Option (Bound ℕ)
low_of [] = Some Unbounded
low_of (digit ∷ digits) = option_map Included (number_of (digit ∷ digits))

-- the bound behind two dots: nothing, `=` (61) and a number, or a number
abbrev pub high_of : List ℕ → Option (Bound ℕ)
high_of [] = Some Unbounded
high_of (b ∷ bs) = if b == 61 then option_map Included (number_of bs) else option_map Excluded (number_of (b ∷ bs))

abbrev pub behind_dots : List ℕ → Option (Bound ℕ)
behind_dots [] = None
behind_dots (b ∷ []) = None
behind_dots (b ∷ c ∷ rest) = if b == 46 && c == 46 then high_of rest else None

abbrev pub range_at : List ℕ × List ℕ → Option (Bound ℕ × Bound ℕ)
range_at parts = do
  low ← low_of parts.0
  high ← behind_dots parts.1
  Some (low, high)

abbrev pub range_of : List ℕ → Option (Bound ℕ × Bound ℕ)
range_of word = range_at (at_dot word)

-- Where in a literal a byte stands: anywhere, behind a `\` (92), behind `\x`, or behind its first digit, of this value
pub data Place : Type 0 where
  Plain : Place
  Escape : Place
  High : Place
  Low : ℕ → Place

abbrev pub before : ℕ → Option (List ℕ × List ℕ) → Option (List ℕ × List ℕ)
before b found = option_map (λ f. (b ∷ f.0, f.1)) found

-- the bytes of a literal up to the `"` (34) that ends it, and what stands behind that: a `"` and a `\` stand behind a `\`, and `\x` and two
-- hexadecimal digits of either case stand for any byte
unfoldable pub decoded : Place → List ℕ → Option (List ℕ × List ℕ)
decoded Plain [] = None
decoded Plain (b ∷ bs) = if b == 34 then Some ([], bs) else if b == 92 then decoded Escape bs else before b (decoded Plain bs)
decoded Escape [] = None
decoded Escape (b ∷ bs) = if b == 34 || b == 92 then before b (decoded Plain bs) else if b == 120 then decoded High bs else None
decoded High [] = None
decoded High (b ∷ bs) = if is_ascii_hexdigit b then decoded (Low (digit_value b)) bs else None
decoded (Low high) [] = None
decoded (Low high) (b ∷ bs) = if is_ascii_hexdigit b then before (high * 16 + digit_value b) (decoded Plain bs) else None

-- a literal ends its line, or a space stands behind it
abbrev pub closed : List ℕ × List ℕ → Option (List ℕ × Left)
closed (bytes, []) = Some (bytes, None)
closed (bytes, b ∷ bs) = if b == 32 then Some (bytes, Some bs) else None

-- a literal begins with a `"`
abbrev pub literal_at : Left → Option (List ℕ × Left)
literal_at None = None
literal_at (Some []) = None
literal_at (Some (b ∷ bs)) = if b == 34 then decoded Plain bs >>= closed else None

-- the ends that pieces are drawn from: `-`, or letters `F` (70) and `B` (66)
abbrev pub end_of : ℕ → Option End
end_of letter = if letter == 70 then Some Front else if letter == 66 then Some Back else None

abbrev pub letters_of : List ℕ → Option (List End)
letters_of [] = Some []
letters_of (letter ∷ letters) = do
  end ← end_of letter
  ends ← letters_of letters
  Some (end ∷ ends)

abbrev pub ends_of : List ℕ → Option (List End)
ends_of [] = None
ends_of (letter ∷ letters) = if bytes_eq (letter ∷ letters) (codes "-") then Some [] else letters_of (letter ∷ letters)

-- the value of a name in a list of names
abbrev pub look_up : {A : Type 0} → List ℕ → List (List ℕ × A) → Option A
look_up word [] = None
look_up word (entry ∷ entries) = if bytes_eq entry.0 word then Some entry.1 else look_up word entries

-- one space stands between two words, and a word may be empty
pub words-example : word_at (Some (codes "new  0")) ≡ Some (codes "new", Some (codes " 0"))
unfolding next_word
words-example = refl

pub number-examples : (number_of (codes "007") ≡ Some 7) × (number_of (codes "18446744073709551616") ≡ None) × (number_of (codes "+1") ≡ None)
unfolding number_after
number-examples = (refl, refl, refl)

pub range-examples : (range_of (codes "1..=2") ≡ Some (Included 1, Included 2)) × (range_of (codes "..3") ≡ Some (Unbounded, Excluded 3))
    × (range_of (codes "6..") ≡ Some (Included 6, Unbounded)) × (range_of (codes "1...2") ≡ None) × (range_of (codes "..=") ≡ None)
unfolding at_dot number_after
range-examples = (refl, refl, refl, refl, refl)

pub literal-examples : (literal_at (Some (codes "\"a\\\"\\x4A\\x4a\" 1")) ≡ Some (codes "a\"JJ", Some (codes "1")))
    × (literal_at (Some (codes "\"a\"b")) ≡ None) × (literal_at (Some (codes "\"\\n\"")) ≡ None)
unfolding decoded
literal-examples = (refl, refl, refl)

pub ends-examples : (ends_of (codes "FB") ≡ Some (Front ∷ Back ∷ [])) × (ends_of (codes "-") ≡ Some []) × (ends_of (codes "F-") ≡ None)
ends-examples = (refl, refl, refl)
