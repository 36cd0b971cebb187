-- Counts by number. Only private functions cite these.
use Rattle.std.specs.Prelude.{ℕ, ◌+◌, ◌==◌, ◌&&◌, ◌||◌, nat_lt, Bool, List, [], ◌∷◌, map, slice_index_or}
use Rattle.std.specs.declared.cmp.Reverse.{Reverse}
use Rattle.hip_uses.specs.Counts.{count_lines}

-- each count with its place, the first of which is `from`
abbrev pub numbered_from : ℕ → List ℕ → List (ℕ × ℕ)
numbered_from from [] = []
numbered_from from (count ∷ counts) = (count, from) ∷ numbered_from (from + 1) counts

abbrev pub numbered : List ℕ → List (ℕ × ℕ)
numbered counts = numbered_from 0 counts

abbrev pub count_and_place : Reverse ℕ × ℕ → ℕ × ℕ
count_and_place row = (row.0.0, row.1)

-- whether a count and its place stand before others: the greater count, or as great a one at a lower place
abbrev pub ranks_first : ℕ × ℕ → ℕ × ℕ → Bool
ranks_first a b = nat_lt b.0 a.0 || (a.0 == b.0 && nat_lt a.1 b.1)

-- the text at a place, with its count
abbrev pub named : List (List ℕ) → ℕ × ℕ → List ℕ × ℕ
named texts row = (slice_index_or texts row.1 [], row.0)

abbrev pub named_lines : List (List ℕ) → List (Reverse ℕ × ℕ) → List ℕ
named_lines texts rows = count_lines (map (named texts) (map count_and_place rows))
