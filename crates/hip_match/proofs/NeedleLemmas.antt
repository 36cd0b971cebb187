-- Where the bytes of a needle stand, and the marks of such places.
use Rattle.std.proofs.lemmas.Bool.Decides.{nat_tests}
use Rattle.std.proofs.lemmas.Grind.{common_steps}
use Rattle.std.proofs.Common.{◌≡◌, ◌∙◌, ℕ, zero, suc, ◌+◌, ◌-◌, ◌<◌, ◌≤◌, ◌==◌, Bool, true, List, [], ◌∷◌, refl, sym, length, slice_index, bit_and, add-zero, eqb-true, eq-eqb, ap, arith}
use Rattle.std.proofs.lemmas.Bool.{and_from, and_parts}
use Rattle.std.proofs.lemmas.Nat.Bits.{bit_at-lt, bit_at_and}
use Rattle.std.specs.Int.{bit_at}
use Rattle.memchr.specs.Find.{Nowhere, OccursAt}
use Rattle.hip_match.specs.Marks.{Ahead, AreMarks, Behind, PassesAt, by_byte, stands}
use Rattle.hip_match.specs.Needles.{bytes_of, reach_of}
use Rattle.hip_match.specs.declared.place_test.Needle.{Needle}
use Rattle.hip_match.specs.declared.place_test.Needle.TheVariants.{One, Two, Three, Four}
use Rattle.hip_match.proofs.MarkLemmas.{alike}

-- a needle is a byte and those behind it
pub reach_is : (n : Needle) (p : List ℕ) → bytes_of n ≡ p → length p ≡ reach_of n + 1
reach_is (One a) p is = omega (arith, ap length is)
reach_is (Two a b) p is = omega (arith, ap length is)
reach_is (Three a b c) p is = omega (arith, ap length is)
reach_is (Four a b c d) p is = omega (arith, ap length is)

-- one byte more before a needle
cons-occurs : (b : ℕ) (bs t : List ℕ) (k : ℕ) → slice_index t k ≡ b → OccursAt t bs (k + 1) → OccursAt t (b ∷ bs) k
cons-occurs b bs t k here rest = record { fits = omega (arith, rest.fits); reads = reads }
  where
    reads : (j : ℕ) → j < length (b ∷ bs) → slice_index t (k + j) ≡ slice_index (b ∷ bs) j
    reads zero lt = ap (λ i. slice_index t i) (add-zero k) ∙ here
    reads (suc j) lt = ap (λ i. slice_index t i) (omega arith) ∙ rest.reads j (omega arith)

pub stands-occurs : (p t : List ℕ) (k : ℕ) → stands p t k ≡ true → OccursAt t p k
stands-occurs [] t k is = record { fits = grind (arith, nat_tests); reads = λ j lt. absurd (omega arith) }
stands-occurs (b ∷ bs) t k is =
    let parts = and_parts (slice_index t k == b) (stands bs t (k + 1)) is in
    cons-occurs b bs t k (eqb-true _ _ parts.0) (stands-occurs bs t (k + 1) parts.1)

pub occurs-stands : (p t : List ℕ) (k : ℕ) → OccursAt t p k → stands p t k ≡ true
occurs-stands [] t k h = let fits = h.fits in grind (arith, nat_tests)
occurs-stands (b ∷ bs) t k h =
    and_from _ _ (eq-eqb _ _ (ap (λ i. slice_index t i) (omega arith) ∙ h.reads 0 (omega arith)))
    (occurs-stands bs t (k + 1) (record { fits = (let fits = h.fits in omega arith); reads = λ j lt. ap (λ i. slice_index t i) (omega arith) ∙ h.reads (suc j) (omega arith) }))

-- ---- marks

-- the places of the last byte of a needle
pub last_lanes : (b : ℕ) (t : List ℕ) (at m : ℕ) → at + 16 ≤ length t → AreMarks (by_byte (λ x. x == b)) t at (at + 16) (at + 64) m → AreMarks (stands (b ∷ [])) t at (at + 16) (at + 64) m
last_lanes b t at m room h = alike (by_byte (λ x. x == b)) (stands (b ∷ [])) t t at (at + 16) (at + 64) m (λ p lt. grind (arith, nat_tests, common_steps)) h

-- the places of a byte before which the others stand
pub more_lanes : (b : ℕ) (bs t : List ℕ) (at next m n : ℕ) → next ≡ at + 1 → AreMarks (by_byte (λ x. x == b)) t at (at + 16) (at + 64) m → AreMarks (stands bs) t next (next + 16) (next + 64) n
    → AreMarks (stands (b ∷ bs)) t at (at + 16) (at + 64) (bit_and m n)
more_lanes b bs t at next m n is h g = record {
  told = λ k low one.
      let here = h.told k low (omega (arith, one, bit_at_and m n k, bit_at-lt m k)) in
      let rest = g.told k low (omega (arith, one, bit_at_and m n k, bit_at-lt n k)) in
      (here.0, here.1, and_from _ _ here.2 (ap (stands bs t) (omega (arith, here.0)) ∙ rest.2));
  marked = λ p lo hi pass.
      let parts = and_parts (slice_index t p == b) (stands bs t (p + 1)) pass in
      let here = h.marked p lo hi parts.0 in
      let rest = g.marked (p + 1) (omega arith) (omega arith) parts.1 in
      let there : p + 1 + 64 - (next + 64) ≡ p + 64 - (at + 64) = omega arith in
      (here.0, here.1, bit_at_and m n _ ∙ omega (arith, here.2, rest.2, ap (bit_at n) there));
}

-- the two places of a pair
pub pair_lanes : (a b : ℕ) (t : List ℕ) (at m n : ℕ) → at + 17 ≤ length t → AreMarks (by_byte (λ x. x == a)) t at (at + 16) (at + 64) m → AreMarks (by_byte (λ x. x == b)) t (at + 1) (at + 1 + 16) (at + 1 + 64) n
    → AreMarks (stands (a ∷ b ∷ [])) t at (at + 16) (at + 64) (bit_and m n)
pair_lanes a b t at m n room h g = more_lanes a (b ∷ []) t at (at + 1) m n refl h (last_lanes b t (at + 1) n (omega arith) g)

-- where its bytes behind the first stand nowhere, a needle stands nowhere
pub tail-nowhere : (b : ℕ) (bs t : List ℕ) (from to i j : ℕ) → i ≡ from + 1 → j ≡ to + 1 → Nowhere (PassesAt (stands bs) t) i j → Nowhere (PassesAt (stands (b ∷ bs)) t) from to
tail-nowhere b bs t from to i j lo hi none k low high pass = none (k + 1) (omega arith) (omega arith) (and_parts (slice_index t k == b) (stands bs t (k + 1)) pass).1

-- ---- marks by two tests that pass alike in a text

pub same_byte : (b : ℕ) (t : List ℕ) (k : ℕ) → k < length t → by_byte (λ x. x == b) t k ≡ stands (b ∷ []) t k
same_byte b t k lt = grind (arith, nat_tests, common_steps)

module _ (test same : List ℕ → ℕ → Bool) (t : List ℕ) (is : (k : ℕ) → k < length t → test t k ≡ same t k) where
  pub nowhere_same : (from to : ℕ) → to ≤ length t → Nowhere (PassesAt test t) from to → Nowhere (PassesAt same t) from to
  nowhere_same from to le none k lo hi pass = none k lo hi (is k (omega arith) ∙ pass)

  pub ahead_same : (from next m : ℕ) → from ≤ length t → Ahead test t from next m → Ahead same t from next m
  ahead_same from next m le h = record { within = h.within; beyond = nowhere_same next from le h.beyond; marks = alike test same t t from next next m (λ k lt. sym (is k (omega (arith, h.within)))) h.marks }

  pub behind_same : (to start m : ℕ) → to ≤ length t → Behind test t to start m → Behind same t to start m
  behind_same to start m le h = record { within = h.within; beyond = nowhere_same to start h.within h.beyond; marks = alike test same t t start to (start + 64) m (λ k lt. sym (is k (omega arith))) h.marks }
