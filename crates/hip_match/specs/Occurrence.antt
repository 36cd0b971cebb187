-- Where a pattern occurs in a text, at byte positions as in Rust's `str`. `ends` gives the end of the occurrence that starts at a place, if there is one.
use Rattle.std.specs.Prelude.{◌≡◌, ◌↔◌, ℕ, zero, suc, ◌+◌, ◌<◌, ◌≤◌, ◌==◌, nat_lt, nat_le, Bool, false, ◌&&◌, ◌||◌, Option, None, Some, List, MatchOption, length, slice_index, if◌then◌else◌}
use Rattle.std.specs.Str.{IsCharBoundary}

-- the range lies between boundaries of the text
pub record IsCut (text : List ℕ) (r : ℕ × ℕ) : Type 0 where
  pub start : IsCharBoundary text r.0
  pub end : IsCharBoundary text r.1
  pub ordered : r.0 ≤ r.1

-- the range holds one character: no boundary lies within it
pub record IsOneChar (text : List ℕ) (r : ℕ × ℕ) : Type 0 where
  pub holds : r.0 < r.1
  pub one : (k : ℕ) → r.0 < k → k < r.1 → ¬ IsCharBoundary text k

-- no occurrence starts from i up to j
abbrev pub NoneStarts : (ℕ → Option ℕ) → ℕ → ℕ → Type 0
NoneStarts ends i j = (k : ℕ) → i ≤ k → k < j → ends k ≡ None

-- the occurrence m starts at or after `from`, and no other starts between
pub record StartsFirst (ends : ℕ → Option ℕ) (from : ℕ) (m : ℕ × ℕ) : Type 0 where
  pub after : from ≤ m.0
  pub occurs : ends m.0 ≡ Some m.1
  pub first : NoneStarts ends from m.0

-- a walk goes on there behind the match m: at its end, or behind that where the match is empty
abbrev pub GoesOnAt : ℕ × ℕ → ℕ → Type 0
GoesOnAt m k = (m.1 ≤ k) × (m.0 < m.1 → k ≡ m.1)

-- a walk from the end goes on there before the match m: at its start, or before that where the match is empty
abbrev pub GoesOnBefore : ℕ × ℕ → ℕ → Type 0
GoesOnBefore m k = (k ≤ m.0) × (m.0 < m.1 → k ≡ m.0)

-- r is the occurrence that starts first at or after `from`
abbrev pub IsNextMatch : (ℕ → Option ℕ) → ℕ → Option (ℕ × ℕ) → Type 0
IsNextMatch ends from r = MatchOption r ((k : ℕ) → from ≤ k → ends k ≡ None) (StartsFirst ends from)

-- the occurrence m ends at or before `to`, and no other ends between
pub record EndsLast (ends : ℕ → Option ℕ) (to : ℕ) (m : ℕ × ℕ) : Type 0 where
  pub before : m.1 ≤ to
  pub occurs : ends m.0 ≡ Some m.1
  pub last : (a b : ℕ) → ends a ≡ Some b → m.1 < b → to < b

-- r is the occurrence that ends last at or before `to`
abbrev pub IsLastMatch : (ℕ → Option ℕ) → ℕ → Option (ℕ × ℕ) → Type 0
IsLastMatch ends to r = MatchOption r ((a b : ℕ) → ends a ≡ Some b → to < b) (EndsLast ends to)

-- whether an occurrence with this end ends at j
abbrev pub ends_at : Option ℕ → ℕ → Bool
ends_at None j = false
ends_at (Some b) j = b == j

-- the start of the occurrence that ends at j, among the n places from `from` on
unfoldable pub start_among : (ℕ → Option ℕ) → ℕ → ℕ → ℕ → Option ℕ
start_among ends from zero j = None
start_among ends from (suc n) j = if ends_at (ends (from + n)) j then Some (from + n) else start_among ends from n j

-- the start of the occurrence that ends at j
abbrev pub start_of : (ℕ → Option ℕ) → ℕ → Option ℕ
start_of ends j = start_among ends 0 (j + 1) j

-- an occurrence starts and ends at the same places, whether it is looked for from its start or from its end
abbrev pub EndsMatchStarts : (ℕ → Option ℕ) → Type 0
EndsMatchStarts ends = (a j : ℕ) → (start_of ends j ≡ Some a) ↔ (ends a ≡ Some j)

-- no occurrence that starts before i ends after it
abbrev pub NoneCrosses : (ℕ → Option ℕ) → ℕ → Type 0
NoneCrosses ends i = (a b : ℕ) → ends a ≡ Some b → a < i → b ≤ i

-- `s.is_char_boundary(i)`
abbrev pub is_boundary : List ℕ → ℕ → Bool
is_boundary text i = i == length text || (nat_lt i (length text) && (nat_lt (slice_index text i) 128 || nat_le 192 (slice_index text i)))
