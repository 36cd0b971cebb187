-- The answers of a predicate on characters, as a list with a place for each number.
use Rattle.std.specs.Prelude.{ℕ, Bool, false, List, slice_index_or}

-- the answer at a character
abbrev pub answer_at : List Bool → ℕ → Bool
answer_at answers c = slice_index_or answers c false
