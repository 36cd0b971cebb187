-- Which bit of a number is its lowest, and which its highest, of the 64 that it has.
use Rattle.std.specs.Prelude.{◌≡◌, ℕ, ◌<◌}
use Rattle.std.specs.Int.{bit_at}

-- bit r is set, and none below it
pub record IsLowest (m r : ℕ) : Type 0 where
  pub bound : r < 64
  pub set : bit_at m r ≡ 1
  pub below : (k : ℕ) → k < r → bit_at m k ≡ 0

-- bit r is set, and none above it
pub record IsHighest (m r : ℕ) : Type 0 where
  pub bound : r < 64
  pub set : bit_at m r ≡ 1
  pub above : (k : ℕ) → r < k → bit_at m k ≡ 0
