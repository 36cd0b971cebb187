-- The values in the places of a block.
use Rattle.std.specs.Prelude.{◌≡◌, ℕ, ◌+◌, ◌≤◌, List, [], ◌∷◌, map, length, take, drop, Option, Some, None}

module _ {X : Type 0} where
  -- the values that are there
  abbrev pub somes : List (Option X) → List X
  somes [] = []
  somes (None ∷ cs) = somes cs
  somes (Some x ∷ cs) = x ∷ somes cs

  -- the len places from the index from on hold values
  abbrev pub AreFilled : List (Option X) → ℕ → ℕ → Type 0
  AreFilled cs from len = (from + len ≤ length cs) × ((xs : List X) × (take len (drop from cs) ≡ map Some xs))

  -- the values of the first len places
  abbrev pub front : ℕ → List (Option X) → List X
  front len cs = somes (take len cs)
