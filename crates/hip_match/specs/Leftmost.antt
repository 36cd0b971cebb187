-- The matches of a pattern, leftmost first, with no two overlapping: Rust's `str::match_indices`.
use Rattle.std.specs.Prelude.{◌≡◌, ℕ, zero, suc, ◌+◌, ◌-◌, ◌<◌, ◌≤◌, ◌⊎◌, ⊤, max, nat_le, Option, None, Some, List, [], ◌∷◌, if◌then◌else◌}
use Rattle.std.specs.Option.{option_map_or}

-- the matches that start in the n places from i on, after `skip` places that an earlier match covers
unfoldable pub leftmost_from : (ℕ → Option ℕ) → ℕ → ℕ → ℕ → List (ℕ × ℕ)
leftmost_from ends skip i zero = []
leftmost_from ends (suc skip) i (suc n) = leftmost_from ends skip (i + 1) n
leftmost_from ends zero i (suc n) =
    option_map_or (λ b. (i, b) ∷ leftmost_from ends (b - i - 1) (i + 1) n) (ends i) (leftmost_from ends zero (i + 1) n)

-- an end that is at most `to`
abbrev pub end_within : ℕ → Option ℕ → Option ℕ
end_within to None = None
end_within to (Some b) = if nat_le b to then Some b else None

-- the leftmost list of the occurrences that lie between two places
abbrev pub leftmost_between : (ℕ → Option ℕ) → ℕ → ℕ → List (ℕ × ℕ)
leftmost_between ends from to = leftmost_from (λ k. end_within to (ends k)) 0 from (to + 1 - from)

-- the leftmost list of a text of n bytes
abbrev pub leftmost : (ℕ → Option ℕ) → ℕ → List (ℕ × ℕ)
leftmost ends n = leftmost_between ends 0 n

-- ---- what that list is: each is an occurrence, each begins at or after the end of the one before, none is repeated, and every other
-- occurrence begins within one that is listed

abbrev pub AllOccur : (ℕ → Option ℕ) → List (ℕ × ℕ) → Type 0
AllOccur ends [] = ⊤
AllOccur ends (r ∷ rs) = (ends r.0 ≡ Some r.1) × AllOccur ends rs

-- where the next range may begin: at the end of this one, or behind its start where it is empty
abbrev pub place_after : ℕ × ℕ → ℕ
place_after r = max r.1 (r.0 + 1)

abbrev pub BeginInOrder : ℕ → List (ℕ × ℕ) → Type 0
BeginInOrder i [] = ⊤
BeginInOrder i (r ∷ rs) = (i ≤ r.0) × BeginInOrder (place_after r) rs

abbrev pub IsListed : ℕ → ℕ → List (ℕ × ℕ) → Type 0
IsListed a b [] = ⊥
IsListed a b (r ∷ rs) = ((r.0 ≡ a) × (r.1 ≡ b)) ⊎ IsListed a b rs

abbrev pub BeginsWithin : ℕ → List (ℕ × ℕ) → Type 0
BeginsWithin a [] = ⊥
BeginsWithin a (r ∷ rs) = ((r.0 ≤ a) × (a < r.1)) ⊎ BeginsWithin a rs

pub record IsLeftmost (ends : ℕ → Option ℕ) (from : ℕ) (ranges : List (ℕ × ℕ)) : Type 0 where
  pub occur : AllOccur ends ranges
  pub in_order : BeginInOrder from ranges
  pub no_other : (a b : ℕ) → ends a ≡ Some b → from ≤ a → IsListed a b ranges ⊎ BeginsWithin a ranges
