-- Bytes that are added to a list that is being made.
use Rattle.std.proofs.Common.{◌≡◌, ◌∙◌, ℕ, ◌+◌, ◌-◌, ◌*◌, ◌^◌, ◌<◌, ◌≤◌, true, false, List, [], length, nat_le, Result, Ok, Err, IfOk, if◌then◌else◌, Bool, ap, sym, arith}
use Rattle.std.specs.Result.{IsErrAnd}
use Rattle.hip_raw.specs.Meter.{RisesAtLeast, RisesAtMost, times_copied, unless_shared}
use Rattle.hip_bytes.specs.declared.grow_fault.GrowFault.TheVariants.{TooLong, Memory}
use Rattle.hip_bytes.specs.declared.kind.TheConstants.{INLINE_CAPACITY}

pub memory_is_not_long : {P : Type 0} → Memory ≡ TooLong → P
memory_is_not_long same = absurd (cc)

pub done_is_no_fault : {T E P : Type 0} {done : T} {fault : E} → Ok done ≡ Err fault → P
done_is_no_fault same = absurd (cc)

pub fault_is : {T E : Type 0} (r : Result T E) (fault other : E) → IsErrAnd r (λ f. f ≡ fault) → r ≡ Err other → fault ≡ other
fault_is (Ok done) fault other is same = absurd is
fault_is (Err f) fault other is same = let e : f ≡ other = cc in sym is ∙ e

-- a sum that is no `usize`
pub past : (xs gap bytes : List ℕ) → (length gap + length bytes < 2 ^ 64 → ⊥) → 2 ^ 64 ≤ length xs + length gap + length bytes
past xs gap bytes over = omega (arith, over)

-- bytes that don't fit the handle
pub over : (xs gap bytes : List ℕ) (more len : ℕ) → more ≡ length gap + length bytes → len ≡ length xs → INLINE_CAPACITY - len < more
    → INLINE_CAPACITY < length xs + length gap + length bytes
over xs gap bytes more len more_is len_is past = omega arith

pub if_fault : {T E : Type 0} (r : Result T E) (Q : E → Type 0) (P : T → Type 0) → IsErrAnd r Q → IfOk r P
if_fault (Ok done) Q P err = absurd err
if_fault (Err fault) Q P err = tt

pub none_copied : (a b : ℕ) (xs : List ℕ) → xs ≡ [] → a ≤ b → RisesAtLeast a b (length xs)
none_copied a b xs none more = omega (arith, ap length none)

pub counted_more : (a b m n : ℕ) → RisesAtMost a b m → m ≤ n → RisesAtMost a b n
counted_more a b m n rises more = record { never_falls = rises.never_falls; at_most = omega arith }

pub once_more : (m n : ℕ) → m ≤ m + n
once_more m n = omega arith

pub half_of_twice : (m : ℕ) → m ≤ 2 * m
half_of_twice m = omega arith

pub at_most_twice : (m n : ℕ) → n ≤ m → m + n ≤ 2 * m
at_most_twice m n le = omega arith

pub fits_none : (xs : List ℕ) → xs ≡ [] → nat_le (length xs) INLINE_CAPACITY ≡ true
fits_none xs none = ap (λ ys. nat_le (length ys) INLINE_CAPACITY) none

pub longer_than : (len gap more all : ℕ) → all ≡ len + gap + more → len ≤ all
longer_than len gap more all is = omega arith

-- a refused addition counts nothing
pub counted_before : (a b c : ℕ) (in_handle : Bool) (len more : ℕ) → RisesAtMost a b (len + (if in_handle then 0 else INLINE_CAPACITY)) → c ≡ b → len ≤ more → RisesAtMost a c (more + INLINE_CAPACITY)
counted_before a b c true len more rises same longer = record { never_falls = omega arith; at_most = omega arith }
counted_before a b c false len more rises same longer = record { never_falls = omega arith; at_most = omega arith }

-- a copy that then goes into an owner
pub counted_copied : (a b c n len : ℕ) (shares : Bool) → RisesAtMost a b n → RisesAtMost b c (unless_shared shares len) → len ≡ n → RisesAtMost a c (times_copied shares n)
counted_copied a b c n len true first second same = record { never_falls = omega arith; at_most = omega arith }
counted_copied a b c n len false first second same = record { never_falls = omega arith; at_most = omega arith }
