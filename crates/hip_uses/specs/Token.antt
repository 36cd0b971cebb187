-- A token as a part of its source.
use Rattle.std.specs.Prelude.{◌≡◌, ◌≢◌, ℕ, ◌+◌, ◌<◌, ◌≤◌, ◌==◌, ◌||◌, nat_le, Bool, List, [], ◌∷◌, length, slice_index, slice_range, if◌then◌else◌}
use Rattle.std.specs.Char.{is_ascii_alphabetic, is_ascii_digit, is_ascii_whitespace}
use Rattle.hipstr.specs.Handle.{Handle}
use Rattle.hipstr.specs.Made.{IsPart}
use Rattle.hip_uses.specs.declared.tokens.Class.{Class}
use Rattle.hip_uses.specs.declared.tokens.Class.TheVariants.{Word, Digits, Space, Mark}
use Rattle.hip_uses.specs.declared.tokens.Token.{Token}

-- the class of a byte; 95 is `_`
abbrev pub class_of : ℕ → Class
class_of byte =
    if nat_le 128 byte || (is_ascii_alphabetic byte || byte == 95) then Word
    else (if is_ascii_digit byte then Digits else (if is_ascii_whitespace byte then Space else Mark))

-- a byte of a word or a digit, and one of a word or white space: these two tell the class
abbrev pub is_word_or_digit : ℕ → Bool
is_word_or_digit byte = nat_le 128 byte || (is_ascii_alphabetic byte || byte == 95) || is_ascii_digit byte

abbrev pub is_word_or_space : ℕ → Bool
is_word_or_space byte = nat_le 128 byte || (is_ascii_alphabetic byte || byte == 95) || is_ascii_whitespace byte

-- from `start` up to `end` the bytes are of one class, and the next is of another
pub record IsClassRun (bytes : List ℕ) (class : Class) (start end : ℕ) : Type 0 where
  pub filled : start < end
  pub within : end ≤ length bytes
  pub one_class : (k : ℕ) → start ≤ k → k < end → class_of (slice_index bytes k) ≡ class
  pub longest : end < length bytes → class_of (slice_index bytes end) ≢ class

abbrev pub token_bytes : {B S P : Type 0} → Token B S P → List ℕ
token_bytes token = token.text.items

abbrev pub end_of : {B S P : Type 0} → Token B S P → ℕ
end_of token = token.start + length token.text.items

-- the source's part at the token's place, which is a run of its class
abbrev pub IsTokenOf : {B S P : Type 0} → Handle → Token B S P → Type 0
IsTokenOf source token =
    IsPart source token.text (slice_range source.items token.start (end_of token))
    × IsClassRun source.items token.class token.start (end_of token)

-- the first token begins at `from`, each other where the one before it ends, and the last ends at `to`
abbrev pub AreAdjacent : {B S P : Type 0} → ℕ → List (Token B S P) → ℕ → Type 0
AreAdjacent from [] to = from ≡ to
AreAdjacent from (token ∷ tokens) to = (token.start ≡ from) × AreAdjacent (end_of token) tokens to
