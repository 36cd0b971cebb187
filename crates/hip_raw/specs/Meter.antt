-- The number of bytes that calls copy. A meter counts bytes in 128 bits and stays at its greatest number, so a contract says by how much it
-- rises at most.
use Rattle.std.specs.Prelude.{◌≡◌, ℕ, ◌+◌, ◌-◌, ◌*◌, ◌^◌, ◌≤◌, min, nat_le, if◌then◌else◌, Bool, true, false, refl}

-- a meter that stood at `old` stands at `new`: it has not fallen, and has risen by `most` at most
pub record RisesAtMost (old new most : ℕ) : Type 0 where
  pub never_falls : old ≤ new
  pub at_most : new ≤ old + most

-- where a meter stands that stood at `old` and counted `n` bytes more (Rust's `saturating_add` of `u128`)
abbrev pub count_from : ℕ → ℕ → ℕ
count_from old n = min (old + n) (2 ^ 128 - 1)

pub count_from-small : count_from 40 2 ≡ 42
count_from-small = refl

pub count_from-full : count_from (2 ^ 128 - 2) 5 ≡ 2 ^ 128 - 1
count_from-full = refl

-- a meter that stood at `old` stands at `new`: it has counted `least` bytes at least
abbrev pub RisesAtLeast : ℕ → ℕ → ℕ → Type 0
RisesAtLeast old new least = count_from old least ≤ new

-- a meter that stood at `old` stands at `new`: it has counted just `n` bytes
pub record RisesBy (old new n : ℕ) : Type 0 where
  pub at_most : new ≤ old + n
  pub at_least : RisesAtLeast old new n

-- the bytes that are copied where an owner can't be shared: none where it can
abbrev pub unless_shared : Bool → ℕ → ℕ
unless_shared true n = 0
unless_shared false n = n

pub unless_shared-examples : (unless_shared true 42 ≡ 0) × (unless_shared false 42 ≡ 42)
unless_shared-examples = (refl, refl)

-- `n` bytes that go into a new vector and then into its owner: where owners can't be shared, the second step may copy
-- them once more
abbrev pub times_copied : Bool → ℕ → ℕ
times_copied true n = n
times_copied false n = n + n

pub times_copied-examples : (times_copied true 24 ≡ 24) × (times_copied false 24 ≡ 48)
times_copied-examples = (refl, refl)

-- the bytes that an append of `added` bytes behind the first `keep` copies, where owners aren't shared: those bytes alone where all fit the
-- capacity, else the kept ones too, which move to new room
abbrev pub append_copies : ℕ → ℕ → ℕ → ℕ
append_copies capacity keep added = if nat_le (keep + added) capacity then added else keep + added

pub append_copies-examples : (append_copies 64 30 34 ≡ 34) × (append_copies 64 30 35 ≡ 65)
append_copies-examples = (refl, refl)

-- the bytes that appends have paid for in advance: the next growth moves all bytes once. Twice the length less the capacity, nothing where
-- that is negative
abbrev pub pot : ℕ → ℕ → ℕ
pot len capacity = 2 * len - capacity

pub pot-examples : (pot 30 64 ≡ 0) × (pot 60 64 ≡ 56)
pot-examples = (refl, refl)
