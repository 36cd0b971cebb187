-- Where the last name of a path lies. No public clause cites this module.
use Rattle.std.specs.Prelude.{◌≡◌, ◌≢◌, ℕ, ◌-◌, ◌<◌, ◌≤◌, true, List, length, slice_index, slice_range, take}
use Rattle.std.specs.Path.{slash, is_name}
use Rattle.hip_names.specs.Components.{components, names}
use Rattle.hip_names.specs.PathParts.{IsTrimmed}

-- the last part that names something stands from start up to end, and nothing behind it is named
pub record IsLastName (path : List ℕ) (start end : ℕ) : Type 0 where
  pub some : start < end
  pub in_path : end ≤ length path
  pub is_name : is_name (slice_range path start end) ≡ true
  pub whole : (k : ℕ) → start ≤ k → k < end → slice_index path k ≢ slash
  pub slash_before : 0 < start → slice_index path (start - 1) ≡ slash
  pub slash_behind : end < length path → slice_index path end ≡ slash
  pub none_behind : names (take end path) ≡ names path

-- the first bytes of a path up to there have its components, and are trimmed
pub record IsEnd (path : List ℕ) (end : ℕ) : Type 0 where
  pub in_path : end ≤ length path
  pub same : components (take end path) ≡ components path
  pub trimmed : IsTrimmed (take end path)
