-- The matches of a pattern, rightmost first, with no two overlapping: Rust's `str::rmatch_indices`.
use Rattle.std.specs.Prelude.{◌≡◌, ℕ, zero, suc, ◌+◌, ◌-◌, ◌<◌, ◌≤◌, ◌⊎◌, ⊤, min, Option, Some, List, [], ◌∷◌}
use Rattle.hip_match.specs.Leftmost.{AllOccur, IsListed}
use Rattle.std.specs.Option.{option_map_or}
use Rattle.hip_match.specs.Occurrence.{start_among}

-- the matches that end at the n places from 0 on, last first, after `skip` places that a later match covers
unfoldable pub rightmost_from : (ℕ → Option ℕ) → ℕ → ℕ → List (ℕ × ℕ)
rightmost_from starts skip zero = []
rightmost_from starts (suc skip) (suc j) = rightmost_from starts skip j
rightmost_from starts zero (suc j) =
    option_map_or (λ a. (a, j) ∷ rightmost_from starts (j - a - 1) j) (starts j) (rightmost_from starts zero j)

-- the rightmost list of the occurrences that lie between two places
abbrev pub rightmost_between : (ℕ → Option ℕ) → ℕ → ℕ → List (ℕ × ℕ)
rightmost_between ends from to = rightmost_from (λ j. start_among ends from (j + 1 - from) j) 0 (to + 1)

-- the rightmost list of a text of n bytes
abbrev pub rightmost : (ℕ → Option ℕ) → ℕ → List (ℕ × ℕ)
rightmost ends n = rightmost_between ends 0 n

-- ---- what that list is: the leftmost list with starts and ends exchanged, listed from the end. Each is an occurrence, each ends at or
-- before the start of the one before, none is repeated, and every other occurrence ends within one that is listed

-- below which place the next range ends: not behind the start of this one, and before it where this one is empty
abbrev pub place_before : ℕ × ℕ → ℕ
place_before r = min r.1 (r.0 + 1)

abbrev pub EndInOrder : ℕ → List (ℕ × ℕ) → Type 0
EndInOrder below [] = ⊤
EndInOrder below (r ∷ rs) = (r.1 < below) × EndInOrder (place_before r) rs

abbrev pub EndsWithin : ℕ → List (ℕ × ℕ) → Type 0
EndsWithin b [] = ⊥
EndsWithin b (r ∷ rs) = ((r.0 < b) × (b ≤ r.1)) ⊎ EndsWithin b rs

pub record IsRightmost (ends : ℕ → Option ℕ) (below : ℕ) (ranges : List (ℕ × ℕ)) : Type 0 where
  pub occur : AllOccur ends ranges
  pub in_order : EndInOrder below ranges
  pub no_other : (a b : ℕ) → ends a ≡ Some b → b < below → IsListed a b ranges ⊎ EndsWithin b ranges
