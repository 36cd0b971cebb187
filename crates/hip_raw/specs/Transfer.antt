-- How one read of a byte source, or one write to a byte sink, changes the count of those that failed. How it changes the bytes is said in
-- the words of the standard library's readers and writers.
use Rattle.std.specs.Prelude.{◌≡◌, ℕ, ◌+◌, ◌-◌, ◌^◌, min, Result, Ok, Err, refl}

-- the count after one more failure; it stays at its greatest number (Rust's `saturating_add` of `u64`)
abbrev pub one_more : ℕ → ℕ
one_more count = min (count + 1) (2 ^ 64 - 1)

pub one_more-small : one_more 41 ≡ 42
one_more-small = refl

pub one_more-full : one_more (2 ^ 64 - 1) ≡ 2 ^ 64 - 1
one_more-full = refl

-- a refused call is counted, and no other
abbrev pub CountsRefusal : {T E : Type 0} → Result T E → ℕ → ℕ → Type 0
CountsRefusal (Ok done) old new = new ≡ old
CountsRefusal (Err fault) old new = new ≡ one_more old
