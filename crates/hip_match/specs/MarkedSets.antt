-- Sets of characters that are found by the places of a text that pass a test.
use Rattle.std.specs.Prelude.{◌≡◌, ℕ, ◌+◌, ◌<◌, Bool, Some, List, length, slice_index}
use Rattle.std.specs.Str.{IsCharBoundary, IsUtf8}
use Rattle.hip_match.specs.Characters.{char_ends}
use Rattle.hip_match.specs.Marks.{PassesAt}

-- each character that belongs starts at a place that passes, and at each place that passes a character starts
pub record AreFirstPlaces (belongs : ℕ → Bool) (places : List ℕ → ℕ → Bool) : Type 0 where
  pub leads : (text : List ℕ) (a b : ℕ) → IsUtf8 text → char_ends belongs text a ≡ Some b → PassesAt places text a
  pub begins : (text : List ℕ) (k : ℕ) → IsUtf8 text → slice_index text k < 256 → k < length text → PassesAt places text k → IsCharBoundary text k

-- the places that pass are where the characters that belong start, each of which has so many bytes
pub record AreStarts (belongs : ℕ → Bool) (width : ℕ) (places : List ℕ → ℕ → Bool) : Type 0 where
  pub first : AreFirstPlaces belongs places
  pub ends : (text : List ℕ) (k : ℕ) → IsUtf8 text → k < length text → PassesAt places text k → char_ends belongs text k ≡ Some (k + width)
