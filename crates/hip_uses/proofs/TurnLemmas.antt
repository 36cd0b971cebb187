-- Bits that tell where runs of a class end.
use Rattle.std.proofs.Common.{◌≡◌, ◌∙◌, ◌≢◌, ℕ, zero, suc, ◌+◌, ◌-◌, ◌%◌, ◌/◌, ◌^◌, ◌<◌, ◌≤◌, min, max, Bool, true, false, not, cond, List, map, length, get_or, bit_and, bit_or, ap, sym, subst, refl, arith, ⊎_elim, bit_xor}
use Rattle.std.proofs.lemmas.Bool.{cases_lt}
use Rattle.std.proofs.lemmas.List.FromFn.{get_or-map-range_with_len}
use Rattle.std.proofs.lemmas.Nat.Bits.{bit_at-suc, bit_at-zero, bit_at_and, bit_at_ones, bit_at_ones_above, bit_at_or, bit_at_xor}
use Rattle.std.specs.Int.{bit_at}
use Rattle.std.specs.List.{range_with_len}
use Rattle.hip_uses.specs.declared.tokens.Class.{Class}
use Rattle.hip_uses.specs.declared.tokens.Class.TheVariants.{Word, Digits, Space, Mark}
use Rattle.hip_uses.specs.Token.{IsClassRun, class_of, is_word_or_digit, is_word_or_space}
use Rattle.hip_uses.specs.Turns.{TurnsAhead, AreTurns, IsNextTurn, NoTurn, Tells}
use Rattle.hipstr.specs.Bits.{IsLowest}

-- the class by two sets: the white space and the marks, and the digits and the marks
abbrev of_two : Bool → Bool → Class
of_two false false = Word
of_two false true = Digits
of_two true false = Space
of_two true true = Mark

by_two : ℕ → Class
by_two byte = of_two (not (is_word_or_digit byte)) (not (is_word_or_space byte))

same_classes : map by_two (range_with_len 0 256) ≡ map class_of (range_with_len 0 256)
unfolding by_two
same_classes = refl

class_by_two : (byte : ℕ) → byte < 256 → of_two (not (is_word_or_digit byte)) (not (is_word_or_space byte)) ≡ class_of byte
unfolding by_two
class_by_two byte low =
    sym (get_or-map-range_with_len by_two 0 256 byte byte Mark low (omega arith))
    ∙ ap (λ (l : List Class). get_or l byte Mark) same_classes
    ∙ get_or-map-range_with_len class_of 0 256 byte byte Mark low (omega arith)

told : (p q p' q' : Bool) (bit : ℕ) → bit ≡ min (max ((cond p 1 0 + cond p' 1 0) % 2) ((cond q 1 0 + cond q' 1 0) % 2)) 1
    → (bit ≡ 0 → of_two p q ≡ of_two p' q') × (bit ≡ 1 → of_two p q ≢ of_two p' q')
told p q p' q' bit is = (λ zero. grind (arith, is, zero), λ one same. grind (arith, is, one, same))

-- the bit at k of what two numbers of marks give
two_marks : (m n k : ℕ) → k < 63 → bit_at (bit_and (bit_or (bit_xor m (m / 2)) (bit_xor n (n / 2))) (2 ^ 63 - 1)) k
    ≡ min (max ((bit_at m k + bit_at m (suc k)) % 2) ((bit_at n k + bit_at n (suc k)) % 2)) 1
two_marks m n k low =
    bit_at_and (bit_or (bit_xor m (m / 2)) (bit_xor n (n / 2))) (2 ^ 63 - 1) k
    ∙ (λ i. min (bit_at_or (bit_xor m (m / 2)) (bit_xor n (n / 2)) k i) (bit_at_ones 63 k low i))
    ∙ (λ i. min (max (one m i) (one n i)) 1)
  where
    one : (m : ℕ) → bit_at (bit_xor m (m / 2)) k ≡ (bit_at m k + bit_at m (suc k)) % 2
    one m = bit_at_xor m (m / 2) k ∙ ap (λ b. (bit_at m k + b) % 2) (sym (bit_at-suc m k))

-- bit k says whether the byte at `at + k` passes the test
abbrev AreMarks : (ℕ → Bool) → List ℕ → ℕ → ℕ → Type 0
AreMarks test text at marks = (k : ℕ) → k < 64 → bit_at marks k ≡ cond (test (get_or text (at + k) 0)) 1 0

pub turns-told : (t : List ℕ) (at m n : ℕ) (spaces digits : ℕ → Bool) → ((k : ℕ) → get_or t k 0 < 256)
    → ((byte : ℕ) → byte < 256 → spaces byte ≡ not (is_word_or_digit byte)) → ((byte : ℕ) → byte < 256 → digits byte ≡ not (is_word_or_space byte))
    → AreMarks spaces t at m → AreMarks digits t at n
    → AreTurns t at (bit_and (bit_or (bit_xor m (m / 2)) (bit_xor n (n / 2))) (2 ^ 63 - 1))
turns-told t at m n spaces digits bytes one other ms ns k low =
    let here = get_or t (at + k) 0 in
    let next = get_or t (at + k + 1) 0 in
    let place : at + suc k ≡ at + k + 1 = omega arith in
    let both = told (spaces here) (digits here) (spaces next) (digits next) _
    (two_marks m n k low
    ∙ (λ i. min (max ((ms k (omega arith) i + (ms (suc k) (omega arith) ∙ ap (λ j. cond (spaces (get_or t j 0)) 1 0) place) i) % 2)
    ((ns k (omega arith) i + (ns (suc k) (omega arith) ∙ ap (λ j. cond (digits (get_or t j 0)) 1 0) place) i) % 2)) 1)) in
    let class : (byte : ℕ) → byte < 256 → of_two (spaces byte) (digits byte) ≡ class_of byte = λ byte fits.
    ap (λ b. of_two b (digits byte)) (one byte fits) ∙ ap (λ b. of_two (not (is_word_or_digit byte)) b) (other byte fits) ∙ class_by_two byte fits in
    let here_is = class here (bytes (at + k)) in
    let next_is = class next (bytes (at + k + 1)) in
    (λ zero. sym here_is ∙ both.0 zero ∙ next_is, λ one same. both.1 one (here_is ∙ same ∙ sym next_is))

pub turns-few : (a k : ℕ) → 63 ≤ k → bit_at (bit_and a (2 ^ 63 - 1)) k ≡ 0
turns-few a k high = bit_at_and a (2 ^ 63 - 1) k ∙ omega (arith, bit_at_ones_above 63 k high)

module _ (t : List ℕ) (from upto m : ℕ) (h : TurnsAhead t from upto m) where
  pub none-ahead : m ≡ 0 → NoTurn t from upto
  none-ahead none k lo hi =
      ⊎_elim (λ (before : k + 63 < upto). h.between k lo before)
      (λ (ge : upto ≤ k + 63). (h.left k lo hi ge).0 (ap (λ x. bit_at x (k + 63 - upto)) none ∙ bit_at-zero (k + 63 - upto)))
      (cases_lt (k + 63) upto)

  pub ahead-more : (n : ℕ) → m ≡ 0 → upto + 64 ≤ length t → AreTurns t upto n → ((k : ℕ) → 63 ≤ k → bit_at n k ≡ 0) → TurnsAhead t from (upto + 63) n
  ahead-more n none room turns few = record {
    within = omega arith;
    inside = λ some. omega arith;
    full = λ some. omega arith;
    reached = λ more. (let reached = h.reached room in omega arith);
    few = few;
    between = λ k lo hi. none-ahead none k lo (omega arith);
    taken = λ j low. (let reached = h.reached room in absurd (omega arith));
    left = λ k lo hi ge.
        let j = k - upto in
        let place : upto + j ≡ k = omega arith in
        let index : j ≡ k + 63 - (upto + 63) = omega arith in
        subst (λ i. Tells t k (bit_at n i)) index (subst (λ i. Tells t i (bit_at n j)) place (turns j (omega arith)));
  }

  -- the first turn, which is passed
  module _ (r n : ℕ) (first : IsLowest m r) (gone : bit_at n r ≡ 0) (others : (k : ℕ) → k ≢ r → bit_at n k ≡ bit_at m k) where
    some : 0 < m
    some = ⊎_elim (λ (lt : 0 < m). lt) (λ (le : m ≤ 0). let none : m ≡ 0 = omega arith in absurd (omega (arith, first.set, ap (λ x. bit_at x r) none, bit_at-zero r))) (cases_lt 0 m)

    pub turn-low : r < 63
    turn-low = ⊎_elim (λ (lt : r < 63). lt) (λ (ge : 63 ≤ r). absurd (omega (arith, first.set, h.few r ge))) (cases_lt r 63)

    pub turn-full : 63 ≤ upto
    turn-full = h.full some

    at : ℕ
    at = upto - 63 + r

    after : from ≤ at
    unfolding at
    after = let full = turn-full in ⊎_elim (λ (lt : r + upto < from + 63). absurd (omega (arith, first.set, h.taken r lt))) (λ (ge : from + 63 ≤ r + upto). omega arith) (cases_lt (r + upto) (from + 63))

    pub turn-found : IsNextTurn t from (upto - 63 + r)
    unfolding at
    turn-found =
        let full = turn-full in
        let low = turn-low in
        let inside = h.inside (omega arith) in
        let past = after in
        let index : at + 63 - upto ≡ r = omega arith in
        let told_ : Tells t at (bit_at m r) = subst (λ i. Tells t at (bit_at m i)) index (h.left at past (omega arith) (omega arith)) in
        record {
          after = past;
          within = omega arith;
          is = told_.1 first.set;
          first = λ k lo hi. ⊎_elim (λ (far : k + 63 < upto). h.between k lo far)
              (λ (ge : upto ≤ k + 63). (h.left k lo (omega arith) ge).0 (first.below (k + 63 - upto) (omega arith)))
              (cases_lt (k + 63) upto);
        }

    pub turn-passed : TurnsAhead t (upto - 63 + r + 1) upto n
    unfolding at
    turn-passed =
        let full = turn-full in
        let low = turn-low in
        let past = after in
        record {
          within = h.within;
          inside = h.inside;
          full = λ more. full;
          reached = λ more. omega arith;
          few = λ j high. others j (λ e. omega arith) ∙ h.few j high;
          between = λ k lo hi. absurd (omega arith);
          taken = λ j lo. grind (arith, others j, first.below j);
          left = λ k lo hi ge. rw (others (k + 63 - upto) (λ e. omega arith)) (h.left k (omega arith) hi ge);
        }

stays : {X : Type 0} (f : ℕ → X) (from k : ℕ) → from ≤ k → ((j : ℕ) → from ≤ j → j < k → f j ≡ f (j + 1)) → f k ≡ f from
stays f from zero le same = grind arith
stays f from (suc k) le same = grind (arith, same k, λ (lo : from ≤ k). stays f from k lo (λ j low hi. same j low (omega arith)))

-- where no turn lies, all bytes are of one class
pub one-class : (t : List ℕ) (from k : ℕ) → from ≤ k → NoTurn t from k → class_of (get_or t k 0) ≡ class_of (get_or t from 0)
one-class t from k le none = stays (λ i. class_of (get_or t i 0)) from k le none

-- up to a turn
pub run-to-turn : (t : List ℕ) (class : Class) (start at : ℕ) → class_of (get_or t start 0) ≡ class → IsNextTurn t start at → IsClassRun t class start (at + 1)
run-to-turn t class start at is next =
    let after = next.after in
    let same : (k : ℕ) → start ≤ k → k ≤ at → class_of (get_or t k 0) ≡ class = λ k lo hi. one-class t start k lo (λ j low high. next.first j low (omega arith)) ∙ is in
    record {
      filled = omega arith;
      within = (let within = next.within in omega arith);
      one_class = λ k lo hi. same k lo (omega arith);
      longest = λ lt other. next.is (same at after (omega arith) ∙ sym other);
    }
