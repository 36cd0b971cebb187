-- The first part of a path, and what the rest names.
use Rattle.std.proofs.Common.{◌≡◌, ℕ, cond, List, [], ◌∷◌, length, unwrap_or, ◌≤◌, arith}
use Rattle.std.proofs.lemmas.Grind.{common_steps}
use Rattle.std.proofs.lemmas.List.Sums.{fails_before_first, prefix_len-le-length}
use Rattle.std.proofs.lemmas.List.Splits.{slice_split_first, slice_split_none}
use Rattle.std.specs.List.{before_first, after_first, position, position_or_len}
use Rattle.std.specs.Path.{is_name}
use Rattle.hip_names.specs.Components.{is_slash, path_parts, names, named}

-- where the first slash stands, by the place that there may be
pub unwrap_or-position : (xs : List ℕ) → unwrap_or (position is_slash xs) (length xs) ≡ position_or_len is_slash xs
unwrap_or-position xs = grind (arith, prefix_len-le-length)

-- a part that names something, before the names of the parts behind it
pub names-first : (path : List ℕ) → names path ≡ cond (is_name (before_first is_slash path)) (named (before_first is_slash path) ∷ names (after_first is_slash path)) (names (after_first is_slash path))
names-first path =
    let none : length path ≤ position_or_len is_slash path → path_parts path ≡ path ∷ [] = λ past. slice_split_none is_slash path (λ k d m. fails_before_first is_slash path k d (omega arith)) in
    grind (arith, common_steps, slice_split_first is_slash path 0)

pub ruleset naming = (names-first)

pub ruleset slashes = (unwrap_or-position)
