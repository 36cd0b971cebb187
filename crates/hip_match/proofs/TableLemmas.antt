-- Tables of bytes by their halves.
use Rattle.std.proofs.lemmas.Grind.{common_steps, get_or-set_at}
use Rattle.std.proofs.Common.{◌≡◌, ℕ, ◌+◌, ◌*◌, ◌/◌, ◌%◌, ◌^◌, ◌<◌, ◌≤◌, ◌==◌, ◌&&◌, ◌||◌, Bool, true, false, not, List, [], ◌∷◌, refl, length, max, replicate, get_or, set, sym, ap, ◌∙◌, arith, ⊎_elim, bit_and, bit_or, nat_lt, slice_index, pow_pos, bit_xor, get_or-set_other}
use Rattle.std.proofs.Math.Path.{fun_ext}
use Rattle.std.specs.Char.{is_ascii_alphabetic, is_ascii_alphanumeric, is_ascii_whitespace}
use Rattle.std.specs.Int.{bit_at}
use Rattle.std.proofs.lemmas.Bool.Decides.{nat_tests}
use Rattle.std.proofs.lemmas.Bool.{agree_below, agree_below_at, cases_eq, cases_lt}
use Rattle.std.proofs.lemmas.Nat.{and_le_r, and_mask}
use Rattle.std.proofs.lemmas.Nat.Bits.{and_pow, bit_at-lt, bit_at-pow_other, bit_at-pow_same, bit_at_ones, bit_at_or, bit_at_xor}
use Rattle.std.proofs.lemmas.Simd.{get_or-zip2, zip2_splat}
use lib.Lanes.{zip2}
use Rattle.std.proofs.lemmas.List.{get_or-map}
use Rattle.hip_match.specs.Marks.{has_nibbles, in_rows}
use Rattle.hip_match.specs.declared.byte_test.TheConstants.{ASCII_COLUMNS}

column-low : (h : ℕ) → h < 8 → slice_index ASCII_COLUMNS h ≡ 2 ^ h
column-low h lt = grind (arith, agree_below_at)

column-high : (h : ℕ) → 8 ≤ h → h < 16 → slice_index ASCII_COLUMNS h ≡ 0
column-high h ge lt = grind (arith, agree_below_at)

one_or_none : (b p : ℕ) → b < 2 → 0 < p → not (b * p == 0) ≡ (b == 1)
one_or_none b p two some = grind arith

pub nibbles_ascii : (rows : List ℕ) (c : ℕ) → c < 256 → has_nibbles rows ASCII_COLUMNS c ≡ in_rows rows c
nibbles_ascii rows c fits =
    let h = c / 16 in
    let row = slice_index rows (c % 16) in
    let found : has_nibbles rows ASCII_COLUMNS c ≡ not (bit_and row (slice_index ASCII_COLUMNS h) == 0) =
    grind (arith, nat_tests, common_steps, and_mask) in
    grind (arith, nat_tests, common_steps, column-low, and_pow, one_or_none, bit_at-lt, pow_pos, and_le_r, column-high, cases_lt)

-- a table as its test tells it
pub in_rows-low : (rows : List ℕ) (c : ℕ) → 128 ≤ c → in_rows rows c ≡ false
in_rows-low rows c high = grind (arith, nat_tests)

pub rows-are : (rows : List ℕ) (test : ℕ → Bool) → agree_below (in_rows rows) test 128 ≡ true → ((c : ℕ) → 128 ≤ c → test c ≡ false) → in_rows rows ≡ test
rows-are rows test all low = fun_ext (λ c. ⊎_elim
    (λ (lt : c < 128). agree_below_at (in_rows rows) test 128 c all lt) (λ (ge : 128 ≤ c). in_rows-low rows c ge ∙ sym (low c ge)) (cases_lt c 128))

pub alphabetic : in_rows (160 ∷ 240 ∷ 240 ∷ 240 ∷ 240 ∷ 240 ∷ 240 ∷ 240 ∷ 240 ∷ 240 ∷ 240 ∷ 80 ∷ 80 ∷ 80 ∷ 80 ∷ 80 ∷ []) ≡ is_ascii_alphabetic
alphabetic = rows-are (160 ∷ 240 ∷ 240 ∷ 240 ∷ 240 ∷ 240 ∷ 240 ∷ 240 ∷ 240 ∷ 240 ∷ 240 ∷ 80 ∷ 80 ∷ 80 ∷ 80 ∷ 80 ∷ []) is_ascii_alphabetic refl (λ c high. grind (arith, nat_tests))

pub alphanumeric : in_rows (168 ∷ 248 ∷ 248 ∷ 248 ∷ 248 ∷ 248 ∷ 248 ∷ 248 ∷ 248 ∷ 248 ∷ 240 ∷ 80 ∷ 80 ∷ 80 ∷ 80 ∷ 80 ∷ []) ≡ is_ascii_alphanumeric
alphanumeric = rows-are (168 ∷ 248 ∷ 248 ∷ 248 ∷ 248 ∷ 248 ∷ 248 ∷ 248 ∷ 248 ∷ 248 ∷ 240 ∷ 80 ∷ 80 ∷ 80 ∷ 80 ∷ 80 ∷ []) is_ascii_alphanumeric refl (λ c high. grind (arith, nat_tests))

pub whitespace : in_rows (4 ∷ 0 ∷ 0 ∷ 0 ∷ 0 ∷ 0 ∷ 0 ∷ 0 ∷ 0 ∷ 1 ∷ 1 ∷ 0 ∷ 1 ∷ 1 ∷ 0 ∷ 0 ∷ []) ≡ is_ascii_whitespace
whitespace = rows-are (4 ∷ 0 ∷ 0 ∷ 0 ∷ 0 ∷ 0 ∷ 0 ∷ 0 ∷ 0 ∷ 1 ∷ 1 ∷ 0 ∷ 1 ∷ 1 ∷ 0 ∷ 0 ∷ []) is_ascii_whitespace refl (λ c high. grind (arith, nat_tests))

power : (h : ℕ) → h < 8 → 1 * 2 ^ h % 256 ≡ 2 ^ h
power h lt = grind (arith, nat_tests, common_steps, agree_below_at)

-- one bit more
module _ (rows : List ℕ) (byte c : ℕ) (ascii : byte < 128) (long : length rows ≡ 16) where
  abbrev x : ℕ
  x = bit_or (get_or rows (byte % 16) 0) (2 ^ (byte / 16))

  by_row : c < 128 → (bit_at (get_or (set rows (byte % 16) x) (c % 16) 0) (c / 16) == 1) ≡ (c == byte || bit_at (get_or rows (c % 16) 0) (c / 16) == 1)
  by_row low = grind (arith, bit_at-lt, bit_at-pow_other, bit_at-pow_same, bit_at_or, cases_eq, get_or-set_at, get_or-set_other)

  pub one_more : in_rows (set rows (bit_and byte 15) (bit_or (get_or rows (bit_and byte 15) 0) (1 * 2 ^ (byte / 16) % 256))) c ≡ (c == byte || in_rows rows c)
  one_more = grind (arith, nat_tests, common_steps, and_mask, power, by_row, in_rows-low)

other_bit : (b : ℕ) → b < 2 → ((b + 1) % 2 == 1) ≡ not (b == 1)
other_bit b two = grind arith

flipped : (n k : ℕ) → k < 8 → (bit_at (bit_xor n 255) k == 1) ≡ not (bit_at n k == 1)
flipped n k low = ap (λ b. b == 1) (bit_at_xor n 255 k) ∙ ap (λ d. (bit_at n k + d) % 2 == 1) (bit_at_ones 8 k low) ∙ other_bit (bit_at n k) (bit_at-lt n k)

-- the bits of the other characters
pub others : (rows : List ℕ) (c : ℕ) → length rows ≡ 16 → in_rows (zip2 bit_xor rows (replicate 16 255)) c ≡ (nat_lt c 128 && not (in_rows rows c))
others rows c long = grind (arith, nat_tests, common_steps, zip2_splat bit_xor rows 16 255 long, get_or-map, flipped, in_rows-low, cases_lt)

either : (b d : ℕ) → b < 2 → d < 2 → (max b d == 1) ≡ (b == 1 || d == 1)
either b d one two = grind (arith, nat_tests)

-- the bits of both
pub joined : (rows others : List ℕ) (c : ℕ) → length rows ≡ 16 → length others ≡ 16 → in_rows (zip2 bit_or rows others) c ≡ (in_rows rows c || in_rows others c)
joined rows others c long wide = grind (arith, bit_at-lt, bit_at_or, either, get_or-zip2, in_rows-low, others)
