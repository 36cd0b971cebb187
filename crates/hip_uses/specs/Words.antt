-- The words of a text: what lies between its gaps.
use Rattle.std.specs.Prelude.{ℕ, Bool, ◌&&◌, not, List, [], ◌∷◌, Option, length, slice_range}
use Rattle.std.specs.Char.{is_ascii, is_ascii_alphanumeric}
use Rattle.hipstr.specs.Pieces.{split}

-- a character of ASCII that is no letter and no digit
abbrev pub is_gap : ℕ → Bool
is_gap c = is_ascii c && not (is_ascii_alphanumeric c)

-- a list before others, if it isn't empty
abbrev pub with_filled : List ℕ → List (List ℕ) → List (List ℕ)
with_filled [] words = words
with_filled (byte ∷ bytes) words = (byte ∷ bytes) ∷ words

-- the parts at ranges that aren't empty
abbrev pub filled_parts : List ℕ → List (ℕ × ℕ) → List (List ℕ)
filled_parts text [] = []
filled_parts text (range ∷ ranges) = with_filled (slice_range text range.0 range.1) (filled_parts text ranges)

-- the parts between the occurrences of a pattern that aren't empty
abbrev pub parts_between : (List ℕ → ℕ → Option ℕ) → List ℕ → List (List ℕ)
parts_between ends text = filled_parts text (split (ends text) (length text))
