-- Where the characters of a set start, by the places that pass a test.
use Rattle.std.proofs.lemmas.Grind.{common_steps}
use Rattle.std.proofs.Common.{◌≡◌, ℕ, ◌+◌, ◌<◌, ◌≤◌, ◌==◌, Bool, true, false, List, Option, Some, None, MatchOption, length, take, take_all, slice_index, ap, sym, ◌∙◌, refl, arith, ⊎_elim, add-zero, get_or-drop, unwrap_or}
use Rattle.std.specs.Char.{IsScalar, encode_utf8, len_utf8}
use Rattle.std.specs.Str.{IsUtf8}
use Rattle.std.proofs.lemmas.Bool.Decides.{nat_tests}
use Rattle.std.proofs.lemmas.Bool.{cases_lt, false≢true}
use Rattle.std.proofs.lemmas.Option.{none-some, same_Some}
use Rattle.std.proofs.lemmas.Str.{IsUtf8-encode, byte_from_char, IsCharBoundary-before_ascii, length-encode, len_utf8_bounds}
use Rattle.hip_match.specs.Occurrence.{is_boundary}
use Rattle.hip_match.specs.Characters.{char_ends}
use Rattle.hip_match.specs.CharLaws.{is_boundary-true, is_boundary-is, starts_char, char_at-ascii, char_at-end, char_at-off, char_at-starts, char_ends-no, char_ends-none, char_ends-spans, char_ends-yes}
use Rattle.hip_match.specs.AsciiSets.{in_set}
use Rattle.hip_match.specs.Marks.{by_byte, stands}
use Rattle.hip_match.specs.declared.ascii_set.AsciiSet.{AsciiSet}
use Rattle.hip_match.specs.Needles.{bytes_of, reach_of}
use Rattle.hip_match.specs.declared.place_test.Needle.{Needle}
use Rattle.hip_match.specs.declared.place_test.Needle.TheVariants.{One}
use Rattle.hip_match.specs.MarkedSets.{AreStarts}
use Rattle.hip_match.proofs.CharTextLemmas.{same_ends}
use Rattle.hip_match.proofs.NeedleLemmas.{occurs-stands, reach_is, stands-occurs}
use Rattle.hip_match.proofs.TableLemmas.{in_rows-low}
use Rattle.hip_match.proofs.TextLemmas.{occurs-text_ends, text_ends-occurs}

-- ---- characters of ASCII: no byte of another character is one of ASCII

module _ (p : ℕ → Bool) (low : (c : ℕ) → 128 ≤ c → p c ≡ false) (t : List ℕ) (utf8 : IsUtf8 t) where
  ascii-none : (k : ℕ) → p (slice_index t k) ≡ false → char_ends p t k ≡ None
  ascii-none k fails = grind (arith, nat_tests, common_steps, IsCharBoundary-before_ascii, add-zero, byte_from_char, char_at-ascii, char_at-end, char_at-off, char_ends-no, char_ends-none, false≢true, get_or-drop, is_boundary, is_boundary-is, is_boundary-true, starts_char)

  pub ascii-some : (k : ℕ) → k < length t → p (slice_index t k) ≡ true → char_ends p t k ≡ Some (k + 1)
  ascii-some k lt is = grind (arith, nat_tests, common_steps, IsCharBoundary-before_ascii, char_at-ascii, char_at-starts, char_ends-yes, false≢true)

  -- an occurrence is the byte at its place
  pub ascii-is : (a b : ℕ) → char_ends p t a ≡ Some b → (a < length t) × (p (slice_index t a) ≡ true) × (b ≡ a + 1)
  ascii-is a b is = grind (arith, nat_tests, common_steps, ascii-none, ascii-some, char_at-end, char_ends-none, none-some, same_Some)

pub ascii_starts : (belongs : ℕ → Bool) (places : List ℕ → ℕ → Bool) → ((t : List ℕ) (k : ℕ) → places t k ≡ belongs (slice_index t k)) → ((c : ℕ) → 128 ≤ c → belongs c ≡ false) → AreStarts belongs 1 places
ascii_starts belongs places same low = record {
  first = record {
    leads = λ t a b utf8 is. same t a ∙ (ascii-is belongs low t utf8 a b is).1;
    begins = λ t k utf8 fits within pass.
        IsCharBoundary-before_ascii t k within (⊎_elim (λ (below : slice_index t k < 128). below) (λ (high : 128 ≤ slice_index t k). absurd (false≢true (sym (low _ high) ∙ sym (same t k) ∙ pass))) (cases_lt (slice_index t k) 128));
  };
  ends = λ t k utf8 within pass. ascii-some belongs low t utf8 k within (sym (same t k) ∙ pass);
}

-- the characters of a set, and of a list that has the same
pub set_starts : (s : AsciiSet) → AreStarts (in_set s) 1 (by_byte (in_set s))
set_starts s = ascii_starts (in_set s) (by_byte (in_set s)) (λ t k. refl) (in_rows-low s.rows)

pub list_starts : (s : AsciiSet) (belongs : ℕ → Bool) → ((d : ℕ) → in_set s d ≡ belongs d) → AreStarts belongs 1 (by_byte (in_set s))
list_starts s belongs same = ascii_starts belongs (by_byte (in_set s)) (λ t k. same (slice_index t k)) (λ d high. sym (same d) ∙ in_rows-low s.rows d high)

-- ---- one character: it starts where its UTF-8 stands

module _ (c : ℕ) (good : IsScalar c) where
  char-ends : (t : List ℕ) (k : ℕ) → IsUtf8 t → stands (encode_utf8 c) t k ≡ true → char_ends (λ d. d == c) t k ≡ Some (k + len_utf8 c)
  char-ends t k utf8 pass =
      ap (λ e. e k) (sym (same_ends c t good utf8)) ∙ occurs-text_ends t (encode_utf8 c) (IsUtf8-encode c good) utf8 k (omega (arith, length-encode c, len_utf8_bounds c)) (stands-occurs (encode_utf8 c) t k pass) ∙ ap (λ n. Some (k + n)) (length-encode c)

  char_starts : AreStarts (λ d. d == c) (len_utf8 c) (stands (encode_utf8 c))
  char_starts = record {
    first = record {
      leads = λ t a b utf8 is. occurs-stands (encode_utf8 c) t a (text_ends-occurs t (encode_utf8 c) a b (ap (λ e. e a) (same_ends c t good utf8) ∙ is)).0;
      begins = λ t k utf8 fits within pass. (char_ends-spans (λ d. d == c) t k _ utf8 (char-ends t k utf8 pass)).start;
    };
    ends = λ t k utf8 within pass. char-ends t k utf8 pass;
  }

  -- the needle of a character
  pub char_found : (o : Option Needle) → MatchOption o (length (encode_utf8 c) ≡ 0) (λ n. bytes_of n ≡ take 4 (encode_utf8 c)) → AreStarts (λ d. d == c) (reach_of (unwrap_or o (One 0)) + 1) (stands (bytes_of (unwrap_or o (One 0))))
  char_found None empty = absurd (omega (arith, empty, length-encode c, len_utf8_bounds c))
  char_found (Some n) h =
      let same = h ∙ take_all 4 (encode_utf8 c) (omega (arith, length-encode c, len_utf8_bounds c)) in
      rw (sym (reach_is n (encode_utf8 c) same) ∙ length-encode c, same) char_starts
