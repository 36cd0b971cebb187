-- Where runs of a class end, as the bits of a number. Only private functions cite it.
use Rattle.std.specs.Prelude.{◌≡◌, ◌≢◌, ℕ, ◌+◌, ◌-◌, ◌<◌, ◌≤◌, List, length, slice_index}
use Rattle.std.specs.Int.{bit_at}
use Rattle.hip_uses.specs.Token.{class_of}

-- the byte at k is of another class than the next
abbrev pub IsTurn : List ℕ → ℕ → Type 0
IsTurn text k = class_of (slice_index text k) ≢ class_of (slice_index text (k + 1))

-- the byte at k is of the same class as the next
abbrev pub NoTurnAt : List ℕ → ℕ → Type 0
NoTurnAt text k = class_of (slice_index text k) ≡ class_of (slice_index text (k + 1))

-- a bit tells whether a place is a turn
abbrev pub Tells : List ℕ → ℕ → ℕ → Type 0
Tells text k bit = (bit ≡ 0 → NoTurnAt text k) × (bit ≡ 1 → IsTurn text k)

-- each bit tells whether a place from `at` on is a turn
abbrev pub AreTurns : List ℕ → ℕ → ℕ → Type 0
AreTurns text at turns = (k : ℕ) → k < 63 → Tells text (at + k) (bit_at turns k)

abbrev pub NoTurn : List ℕ → ℕ → ℕ → Type 0
NoTurn text from to = (k : ℕ) → from ≤ k → k < to → NoTurnAt text k

-- the first turn at or after `from`
pub record IsNextTurn (text : List ℕ) (from at : ℕ) : Type 0 where
  pub after : from ≤ at
  pub within : at + 1 < length text
  pub is : IsTurn text at
  pub first : NoTurn text from at

-- the turns of the 63 places before `upto`, those before `from` taken, and none between `from` and these places
pub record TurnsAhead (text : List ℕ) (from upto turns : ℕ) : Type 0 where
  pub within : upto ≤ length text
  pub inside : 0 < upto → upto < length text
  pub full : 0 < turns → 63 ≤ upto
  pub reached : upto + 64 ≤ length text → from ≤ upto
  pub few : (j : ℕ) → 63 ≤ j → bit_at turns j ≡ 0
  pub between : (k : ℕ) → from ≤ k → k + 63 < upto → NoTurnAt text k
  pub taken : (j : ℕ) → j + upto < from + 63 → bit_at turns j ≡ 0
  pub left : (k : ℕ) → from ≤ k → k < upto → upto ≤ k + 63 → Tells text k (bit_at turns (k + 63 - upto))

-- no turn from `from` on among the places that were looked at, and no more can be looked at
pub record IsTail (text : List ℕ) (from upto turns : ℕ) : Type 0 where
  pub none : NoTurn text from upto
  pub taken : turns ≡ 0
  pub short : length text < upto + 64
