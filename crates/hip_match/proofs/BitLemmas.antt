-- The lowest and the highest bit of a number.
use Rattle.std.proofs.Common.{◌≡◌, ◌≢◌, ◌∙◌, ℕ, zero, suc, ◌+◌, ◌-◌, ◌*◌, ◌/◌, ◌%◌, ◌^◌, ◌<◌, ◌≤◌, bit_and, ap, sym, arith, shr-shr, mod-eq_of_lt, div-add-mod', pow_pos, bit_xor}
use Rattle.std.proofs.Math.Nat.{two-pow-succ}
use Rattle.std.proofs.lemmas.Bool.{cases_lt}
use Rattle.std.proofs.lemmas.Nat.Bits.{bit_at_lowest, bit_at-suc, bit_at-zero, bit_at_above, bit_at_and, bit_at_cat_high, bit_at_cat_low, bit_at-lt, bit_at_ones, bit_at_ones_above, bit_at_xor, bit_at-pow_same, bit_at-pow_other}
use Rattle.std.proofs.Math.Pow.{pow-lt}
use Rattle.std.specs.Int.{bit_at}
use Rattle.hip_match.specs.Bits.{IsHighest, IsLowest}

pub some : (m r : ℕ) → bit_at m r ≡ 1 → 0 < m
some m r one = grind (arith, bit_at-zero, cases_lt)

-- ---- one less

odd : (m k : ℕ) → m % 2 ≡ 1 → 0 < k → bit_at (m - 1) k ≡ bit_at m k
odd m zero is above = absurd (omega arith)
odd m (suc k) is above = grind (arith, bit_at-suc)

even : (m k : ℕ) → m % 2 ≡ 0 → 0 < m → bit_at (m - 1) (suc k) ≡ bit_at (m / 2 - 1) k
even m k is more = grind (arith, bit_at-suc)

less_one : (r m : ℕ) → bit_at m r ≡ 1 → ((k : ℕ) → k < r → bit_at m k ≡ 0)
    → (bit_at (m - 1) r ≡ 0) × ((k : ℕ) → r < k → bit_at (m - 1) k ≡ bit_at m k)
less_one zero m one below = grind (arith, bit_at_lowest, odd)
less_one (suc r) m one below =
    let is : m % 2 ≡ 0 = sym (bit_at_lowest m) ∙ below 0 (omega arith) in
    let half = less_one r (m / 2) (sym (bit_at-suc m r) ∙ one) (λ k low. sym (bit_at-suc m k) ∙ below (suc k) (omega arith)) in
    (grind (arith, even, some), λ k above. grind (arith, even m (k - 1) is, some m (suc r) one, bit_at-suc m (k - 1), half.1 (k - 1)))

abbrev pub cut_low : ℕ → ℕ
cut_low m = bit_and m ((m + 18446744073709551615) % 18446744073709551616)

cut_is : (m : ℕ) → 0 < m → m < 2 ^ 64 → cut_low m ≡ bit_and m (m - 1)
cut_is m more fits = ap (bit_and m) (omega arith)

pub cut_lowest : (m r : ℕ) → m < 2 ^ 64 → IsLowest m r → bit_at (cut_low m) r ≡ 0
cut_lowest m r fits low = grind (arith, cut_is, some, bit_at_and, less_one)

pub cut_others : (m r k : ℕ) → m < 2 ^ 64 → IsLowest m r → k ≢ r → bit_at (cut_low m) k ≡ bit_at m k
cut_others m r k fits low apart = grind (arith, cut_is m (some m r low.set) fits, some m r low.set, bit_at_and m (m - 1) k, less_one r m low.set low.below, cases_lt k r)

-- ---- the highest

pub top : (m r : ℕ) → r < 64 → 2 ^ r ≤ m → m < 2 * 2 ^ r → IsHighest m r
top m r bound low high = grind (arith, two-pow-succ r, bit_at_cat_high, bit_at_above)

-- ---- those from one on

module _ (m by : ℕ) (fits : m < 2 ^ 64) where
  from_is : m / 2 ^ by * 2 ^ by % 2 ^ 64 ≡ m / 2 ^ by * 2 ^ by + 0
  from_is = grind (arith, div-add-mod', mod-eq_of_lt)

  pub from_below : (k : ℕ) → k < by → bit_at (m / 2 ^ by * 2 ^ by % 2 ^ 64) k ≡ 0
  from_below k low = grind (arith, from_is, bit_at_cat_low, bit_at-zero)

  pub from_kept : (k : ℕ) → by ≤ k → bit_at (m / 2 ^ by * 2 ^ by % 2 ^ 64) k ≡ bit_at m k
  from_kept k le = grind (arith, bit_at_cat_high, from_is, pow_pos, shr-shr)

-- ---- all but one

one_bit : (r : ℕ) → r < 64 → 1 * 2 ^ r % 2 ^ 64 ≡ 2 ^ r
one_bit r low = grind (arith, mod-eq_of_lt, pow-lt)

pub xor_same : (m r : ℕ) → r < 64 → bit_at m r ≡ 1 → bit_at (bit_xor m (1 * 2 ^ r % 2 ^ 64)) r ≡ 0
xor_same m r low one = grind (arith, one_bit, bit_at_xor, bit_at-pow_same)

pub xor_other : (m r k : ℕ) → r < 64 → k ≢ r → bit_at (bit_xor m (1 * 2 ^ r % 2 ^ 64)) k ≡ bit_at m k
xor_other m r k low apart = grind (arith, one_bit, bit_at_xor, bit_at-pow_other, bit_at-lt)

-- ---- those below one

less : (n : ℕ) → n < 64 → 1 * 2 ^ n % 2 ^ 64 - 1 ≡ 2 ^ n - 1
less n low = ap (λ (x : ℕ). x - 1) (one_bit n low)

pub one_some : (n : ℕ) → n < 64 → 0 < 1 * 2 ^ n % 2 ^ 64
one_some n low = omega (arith, one_bit n low, pow_pos n)

pub below_kept : (m n k : ℕ) → n < 64 → k < n → bit_at (bit_and m (1 * 2 ^ n % 2 ^ 64 - 1)) k ≡ bit_at m k
below_kept m n k low lt = grind (arith, less, bit_at_and, bit_at_ones, bit_at-lt)

pub below_none : (m n k : ℕ) → n < 64 → n ≤ k → bit_at (bit_and m (1 * 2 ^ n % 2 ^ 64 - 1)) k ≡ 0
below_none m n k low ge = grind (arith, less, bit_at_and, bit_at_ones_above)

-- ---- moved up

bit-mod : (x k : ℕ) → k < 64 → bit_at (x % 2 ^ 64) k ≡ bit_at x k
bit-mod x k low = sym (bit_at_cat_low (x / 2 ^ 64) 64 (x % 2 ^ 64) k low) ∙ ap (λ y. bit_at y k) (div-add-mod' x (2 ^ 64))

pub up_below : (m by k : ℕ) → by < 64 → k < by → bit_at (m * 2 ^ by % 2 ^ 64) k ≡ 0
up_below m by k small low = grind (arith, bit-mod (m * 2 ^ by) k, bit_at_cat_low m by 0 k low, bit_at-zero k)

pub up_moved : (m by k : ℕ) → by ≤ k → k < 64 → bit_at (m * 2 ^ by % 2 ^ 64) k ≡ bit_at m (k - by)
up_moved m by k ge low = bit-mod (m * 2 ^ by) k low ∙ ap (λ x. bit_at x k) (omega arith) ∙ bit_at_cat_high m by 0 k (pow_pos by) ge
