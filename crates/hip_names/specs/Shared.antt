-- The bytes that two paths both begin with. No public clause cites this module.
use Rattle.std.specs.Prelude.{◌≡◌, ℕ, ◌-◌, ◌<◌, ◌≤◌, List, length, slice_index, take}
use Rattle.std.specs.Path.{slash}

-- both begin with the same n bytes, of which the last, if there is one, is a slash
pub record IsSharedFront (left right : List ℕ) (n : ℕ) : Type 0 where
  pub in_left : n ≤ length left
  pub in_right : n ≤ length right
  pub same : take n left ≡ take n right
  pub ends : 0 < n → slice_index left (n - 1) ≡ slash
