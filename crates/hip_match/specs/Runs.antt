-- The runs between white space, and the lines of a text, as Rust's documentation of `str` tells them. The text has n bytes.
use Rattle.std.specs.Prelude.{◌≡◌, ℕ, ◌-◌, ◌<◌, ◌≤◌, ⊤, ◌==◌, nat_lt, Bool, ◌&&◌, List, [], ◌∷◌, map, length, slice_index, if◌then◌else◌}
use Rattle.std.specs.Char.{is_whitespace, is_ascii_whitespace}
use Rattle.hip_match.specs.Occurrence.{IsCut, NoneStarts}
use Rattle.hip_match.specs.Characters.{char_ends}
use Rattle.hip_match.specs.Leftmost.{IsListed}
use Rattle.hip_match.specs.Pieces.{split, split_inclusive}

-- the ranges that aren't empty
abbrev pub nonempty : List (ℕ × ℕ) → List (ℕ × ℕ)
nonempty [] = []
nonempty (r ∷ rs) = if nat_lt r.0 r.1 then r ∷ nonempty rs else nonempty rs

-- the longest nonempty runs of characters outside of a set: what lies between the characters that belong to it
abbrev pub runs_outside : (ℕ → Bool) → List ℕ → List (ℕ × ℕ)
runs_outside belongs text = nonempty (split (char_ends belongs text) (length text))

-- ---- what those are: a run lies between boundaries and holds something, no character of the set starts in it, and no longer range that
-- holds it is such
pub record IsRun (belongs : ℕ → Bool) (text : List ℕ) (r : ℕ × ℕ) : Type 0 where
  pub cut : IsCut text r
  pub holds : r.0 < r.1
  pub outside : NoneStarts (char_ends belongs text) r.0 r.1
  pub longest : (s : ℕ × ℕ) → IsCut text s → s.0 ≤ r.0 → r.1 ≤ s.1 → NoneStarts (char_ends belongs text) s.0 s.1 → (s.0 ≡ r.0) × (s.1 ≡ r.1)

abbrev pub AllRuns : (ℕ → Bool) → List ℕ → List (ℕ × ℕ) → Type 0
AllRuns belongs text [] = ⊤
AllRuns belongs text (r ∷ rs) = IsRun belongs text r × AllRuns belongs text rs

-- each begins at or after the end of the one before
abbrev pub Rise : ℕ → List (ℕ × ℕ) → Type 0
Rise i [] = ⊤
Rise i (r ∷ rs) = (i ≤ r.0) × Rise r.1 rs

-- the ranges are runs, in order, and there is no other run
pub record AreRuns (belongs : ℕ → Bool) (text : List ℕ) (ranges : List (ℕ × ℕ)) : Type 0 where
  pub each : AllRuns belongs text ranges
  pub in_order : Rise 0 ranges
  pub all : (r : ℕ × ℕ) → IsRun belongs text r → IsListed r.0 r.1 ranges

-- the methods of `str`
abbrev pub split_whitespace : List ℕ → List (ℕ × ℕ)
split_whitespace text = runs_outside is_whitespace text

abbrev pub split_ascii_whitespace : List ℕ → List (ℕ × ℕ)
split_ascii_whitespace text = runs_outside is_ascii_whitespace text

-- whether the range holds something and ends with the byte
abbrev pub ends_with : List ℕ → ℕ → ℕ × ℕ → Bool
ends_with text byte r = nat_lt r.0 r.1 && slice_index text (r.1 - 1) == byte

-- the range without a carriage return at its end, which is 13
abbrev pub without_return : List ℕ → ℕ × ℕ → ℕ × ℕ
without_return text r = if ends_with text 13 r then (r.0, r.1 - 1) else r

-- the range without a line feed at its end, which is 10, and then without one carriage return
abbrev pub line_of : List ℕ → ℕ × ℕ → ℕ × ℕ
line_of text r = if ends_with text 10 r then without_return text (r.0, r.1 - 1) else r

abbrev pub lines : List ℕ → List (ℕ × ℕ)
lines text = map (line_of text) (split_inclusive (char_ends (λ c. c == 10) text) (length text))
