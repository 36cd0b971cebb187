-- The fields of an allocated handle.
use Rattle.std.specs.Prelude.{◌≡◌, ℕ, ◌+◌, ◌^◌, ◌<◌, ◌≤◌, Bool, false, List, length}

-- a handle shows `len` bytes from `start` on of an owner's list: they lie in it, its length fits 64 bits and its
-- capacity, and an owner that can't be shared is shown whole
pub record LiesIn (shares : Bool) (owner : List ℕ) (capacity start len : ℕ) : Type 0 where
  pub within : start + len ≤ length owner
  pub fits : length owner ≤ capacity
  pub bound : length owner < 2 ^ 64
  pub position : shares ≡ false → start ≡ 0
  pub whole : shares ≡ false → len ≡ length owner

-- the first `len` bytes of an owner's list are filled, which can't be shared
pub record IsFilled (shares : Bool) (owner : List ℕ) (capacity len : ℕ) : Type 0 where
  pub sole : shares ≡ false
  pub within : len ≤ length owner
  pub fits : length owner ≤ capacity
  pub bound : length owner < 2 ^ 64
