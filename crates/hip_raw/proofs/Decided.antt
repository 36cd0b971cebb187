-- The order of two lists, by the first bytes that differ or by the lengths.
use Rattle.std.proofs.Common.{◌≡◌, ◌≢◌, ℕ, zero, suc, ◌+◌, ◌*◌, ◌^◌, ◌<◌, ◌≤◌, not, List, [], ◌∷◌, ◌++◌, drop, length, get_or, Fits, w8, refl, sym, ap, ◌∙◌, arith}
use Rattle.std.proofs.{Math.Nat.pow-suc, Math.Nat.pow-le-pow_right, Math.Seq.take-suc, lemmas.List.length-drop}
use Rattle.std.proofs.lemmas.Bool.{eq-eqb, eqb-true, not-false}
use Rattle.core.proofs.cmp.Settled.{word}
use Rattle.std.specs.{Simd.Lanes.chunk, Slice.Scan.big_endian, declared.cmp.Ordering.Ordering, Cmp.ranks, Cmp.nat_cmp_is, Cmp.Lexicographic.slice_cmp}
use lib.Seq.{get_or-drop}
use Rattle.std.specs.declared.cmp.Ordering.TheVariants.{Less, Equal, Greater}
use Rattle.std.specs.Ordering.{nat_cmp, ordering_then, MatchOrdering}
use Rattle.hip_raw.specs.Alike.{Alike}

first_decides : (x y : ℕ) (r o : Ordering) → MatchOrdering r (x < y) (x ≡ y) (y < x) → x ≢ y → r ≡ ordering_then r o
first_decides x y Less o h apart = refl
first_decides x y Equal o h apart = absurd (apart h)
first_decides x y Greater o h apart = refl

-- a pair that is alike decides nothing
alike_first : (x y : ℕ) (xs ys : List ℕ) → x ≡ y → slice_cmp nat_cmp xs ys ≡ slice_cmp nat_cmp (x ∷ xs) (y ∷ ys)
alike_first x y xs ys same = ap (λ r. ordering_then r (slice_cmp nat_cmp xs ys)) (nat_cmp_is x y Equal same)

-- the first pair that differs decides
pub by_byte : (xs ys : List ℕ) (i : ℕ) → i < length xs → i < length ys → Alike xs ys 0 i → get_or xs i 0 ≢ get_or ys i 0
    → nat_cmp (get_or xs i 0) (get_or ys i 0) ≡ slice_cmp nat_cmp xs ys
by_byte [] ys i in_xs in_ys alike apart = absurd (omega arith)
by_byte (x ∷ xs) [] i in_xs in_ys alike apart = absurd (omega arith)
by_byte (x ∷ xs) (y ∷ ys) zero in_xs in_ys alike apart = first_decides x y _ _ (ranks x y) apart
by_byte (x ∷ xs) (y ∷ ys) (suc i) in_xs in_ys alike apart =
    by_byte xs ys i (omega arith) (omega arith) (λ k _ below. alike (suc k) (omega arith) (omega arith)) apart
    ∙ alike_first x y xs ys (alike 0 (omega arith) (omega arith))

one_less : (m n : ℕ) (r : Ordering) → MatchOrdering r (suc m < suc n) (suc m ≡ suc n) (suc n < suc m) → MatchOrdering r (m < n) (m ≡ n) (n < m)
one_less m n Less h = let l : suc m < suc n = h in omega arith
one_less m n Equal h = let l : suc m ≡ suc n = h in omega arith
one_less m n Greater h = let l : suc n < suc m = h in omega arith

-- where all bytes of the shorter list are the same, the lengths decide
pub by_lengths : (xs ys : List ℕ) (n : ℕ) (r : Ordering) → (n ≡ length xs → length xs ≤ length ys) → (n < length xs → n ≡ length ys) → n ≤ length xs → Alike xs ys 0 n
    → MatchOrdering r (length xs < length ys) (length xs ≡ length ys) (length ys < length xs) → r ≡ slice_cmp nat_cmp xs ys
by_lengths [] [] n r p q below alike h = nat_cmp_is 0 0 r h
by_lengths [] (y ∷ ys) n r p q below alike h = nat_cmp_is 0 (suc (length ys)) r h ∙ sym (nat_cmp_is 0 (suc (length ys)) Less (omega arith))
by_lengths (x ∷ xs) [] n r p q below alike h = nat_cmp_is (suc (length xs)) 0 r h ∙ sym (nat_cmp_is (suc (length xs)) 0 Greater (omega arith))
by_lengths (x ∷ xs) (y ∷ ys) zero r p q below alike h = absurd (omega arith)
by_lengths (x ∷ xs) (y ∷ ys) (suc n) r p q below alike h =
    by_lengths xs ys n r (λ e. omega arith) (λ l. omega arith) (omega arith) (λ k _ under. alike (suc k) (omega arith) (omega arith)) (one_less _ _ r h)
    ∙ alike_first x y xs ys (alike 0 (omega arith) (omega arith))

last_digit : (n b : ℕ) (bs : List ℕ) → big_endian n (bs ++ (b ∷ [])) ≡ big_endian n bs * 256 + b
last_digit n b [] = refl
last_digit n b (c ∷ bs) = last_digit (n * 256 + c) b bs

-- the number that one byte more spells
pub spelt_on : (xs : List ℕ) (i k : ℕ) → i + k < length xs → big_endian 0 (chunk i (k + 1) xs) ≡ big_endian 0 (chunk i k xs) * 256 + get_or xs (i + k) 0
spelt_on xs i k le =
    let next : k + 1 ≡ suc k = omega arith in
    ap (λ m. big_endian 0 (chunk i m xs)) next ∙ ap (big_endian 0) (take-suc (drop i xs) k 0 (omega (arith, length-drop i xs))) ∙ last_digit 0 (get_or (drop i xs) k 0) (chunk i k xs)
    ∙ ap (λ b. big_endian 0 (chunk i k xs) * 256 + b) (get_or-drop i xs k 0)

-- the number stays below the power
pub small_on : (x b k : ℕ) → x < 256 ^ k → b < 256 → x * 256 + b < 256 ^ (k + 1)
small_on x b k small digit =
    let next : suc k ≡ k + 1 = omega arith in
    let more : 256 ^ suc k ≡ 256 ^ k * 256 = pow-suc 256 k in
    let raised : 256 ^ suc k ≡ 256 ^ (k + 1) = ap (λ m. 256 ^ m) next in
    omega (arith, more, raised)

pub small_eight : (x b k : ℕ) → x < 256 ^ k → b < 256 → k < 8 → x * 256 + b < 2 ^ 64
small_eight x b k small digit few =
    let many : k ≤ 7 = omega arith in
    let most : 256 ^ k ≤ 256 ^ 7 = pow-le-pow_right (omega arith) many in
    omega (arith, most)

-- bytes that aren't all the same decide as numbers, where those before them are
pub by_number : (xs ys : List ℕ) (bx : (k : ℕ) → Fits w8 (get_or xs k 0)) (by : (k : ℕ) → Fits w8 (get_or ys k 0)) (i n x y : ℕ) → i + n ≤ length xs → i + n ≤ length ys
    → x ≡ big_endian 0 (chunk i n xs) → y ≡ big_endian 0 (chunk i n ys) → Alike xs ys 0 i → (Alike xs ys i (i + n) → ⊥) → nat_cmp x y ≡ slice_cmp nat_cmp xs ys
by_number xs ys bx by i n x y in_xs in_ys spelt_x spelt_y front apart =
    let read = word xs ys bx by i n x y in_xs in_ys spelt_x spelt_y (λ k from below. ap not (eq-eqb _ _ (front k from below))) in
    sym (read.apart (λ same. apart (λ k from below. eqb-true _ _ (not-false _ (read.alike same k (omega arith) below)))))
