-- The bytes with which a character of white space begins.
use Rattle.std.proofs.Common.{◌≡◌, ℕ, ◌+◌, ◌/◌, ◌<◌, ◌||◌, Bool, true, not, cond, List, ◌∷◌, ◌++◌, Some, length, arith, refl, add-zero, get_or, get_or-drop, nat_lt, nat_le, slice_index, IsUtf8, IsCharBoundary}
use Rattle.std.specs.Char.{is_whitespace}
use Rattle.std.proofs.lemmas.Bool.Decides.{nat_tests}
use Rattle.std.proofs.lemmas.Bool.{agree_below_at}
use lib.Utf8.{encode}
use Rattle.memchr.specs.Find.{Passes}
use Rattle.hip_match.specs.Characters.{char_ends}
use Rattle.hip_match.specs.CharLaws.{is_boundary-is, char_ends-is}
use Rattle.hip_match.specs.MarkedSets.{AreFirstPlaces}
use Rattle.hip_match.specs.Marks.{by_byte, has_nibbles}
use Rattle.hip_match.specs.declared.byte_test.TheConstants.{SPACE_COLUMNS, SPACE_ROWS}

-- the bytes with which white space begins, and some others that aren't of ASCII
abbrev pub space_leads : ℕ → Bool
space_leads = has_nibbles SPACE_ROWS SPACE_COLUMNS

-- the first byte of a character
abbrev lead : ℕ → ℕ
lead c = cond (nat_lt c 128) c (cond (nat_lt c 2048) (192 + c / 64) (cond (nat_lt c 65536) (224 + c / 4096) (240 + c / 262144)))

first_by : (x y z : Bool) (a b d e : ℕ) (k l m n rest : List ℕ) → get_or (cond x (a ∷ k) (cond y (b ∷ l) (cond z (d ∷ m) (e ∷ n))) ++ rest) 0 0 ≡ cond x a (cond y b (cond z d e))
first_by x y z a b d e k l m n rest = grind arith

first_of : (c : ℕ) (rest : List ℕ) → get_or (encode c ++ rest) 0 0 ≡ lead c
unfolding encode
first_of c rest = grind (arith, first_by)

lead-passes : (c : ℕ) → is_whitespace c ≡ true → space_leads (lead c) ≡ true
lead-passes c is =
    let small : c < 12289 = grind (arith, nat_tests) in
    let told = agree_below_at (λ i. not (is_whitespace i) || space_leads (lead i)) (λ i. true) 12289 c refl small in
    grind (arith, nat_tests)

module _ (t : List ℕ) (utf8 : IsUtf8 t) where
  -- the first byte of white space passes
  space-passes : (a b : ℕ) → char_ends is_whitespace t a ≡ Some b → Passes space_leads t a
  space-passes a b is = grind (arith, char_ends-is is_whitespace t a b utf8 is, encode, add-zero a, get_or-drop a t 0 0, first_of, lead-passes)

  -- each byte that passes begins a character
  lead-boundary : (k : ℕ) → slice_index t k < 256 → k < length t → Passes space_leads t k → IsCharBoundary t k
  lead-boundary k fits within passes =
      let told = agree_below_at (λ i. not (space_leads i) || (nat_lt i 128 || nat_le 192 i)) (λ i. true) 256 (slice_index t k) refl fits in
      grind (arith, is_boundary-is)

pub space_first_places : AreFirstPlaces is_whitespace (by_byte space_leads)
space_first_places = record { leads = λ t a b utf8 is. space-passes t utf8 a b is; begins = λ t k utf8 fits within pass. lead-boundary t utf8 k fits within pass }
