-- Where the braces and the holes of a template stand.
use Rattle.std.proofs.Common.{◌≡◌, ◌∙◌, ℕ, ◌+◌, ◌-◌, ◌<◌, ◌≤◌, true, ◌==◌, List, [], ◌∷◌, ◌++◌, Option, None, Some, length, take, drop, get_or, ap, sym, subst, refl, drop-drop, take-append-drop, take_all, length-drop, length-take-le, arith, slice_index, slice_range, IsCharBoundary, IsUtf8, get_or-drop}
use Rattle.std.proofs.lemmas.Bool.{and_from, and_parts, cond-true}
use Rattle.std.proofs.lemmas.List.{drop_more}
use Rattle.std.proofs.lemmas.Option.{cond_some, none-some, some_pair_parts}
use Rattle.std.proofs.lemmas.Slice.Eq.{bytes_eq-Decides}
use Rattle.std.proofs.lemmas.Str.{encode_ascii, IsCharBoundary-after_ascii, IsCharBoundary-before_ascii, len_utf8_ascii}
use Rattle.std.specs.Char.{len_utf8}
use Rattle.std.proofs.lemmas.Bool.Decides.{nat_tests}
use Rattle.hipstr.specs.Characters.{char_ends}
use Rattle.hipstr.specs.CharLaws.{char_at-ascii, char_ends-is, char_ends-yes, is_boundary-true, starts_char}
use Rattle.hipstr.specs.Occurrence.{StartsFirst, is_boundary}
use Rattle.hipstr.specs.Parted.{IsParted, Lacks}
use Rattle.hipstr.specs.Texts.{text_ends}
use Rattle.hip_uses.specs.Template.{CutsHole, HasByte, IsFirstPair, IsNextPair, IsNextStart, IsPair}
use Rattle.hip_uses.specs.declared.template.Hole.{Hole}

-- the occurrences in a text are these bytes of it
pub record FindsByte (ends : ℕ → Option ℕ) (text : List ℕ) (byte : ℕ) : Type 0 where
  pub one_byte : (a b : ℕ) → ends a ≡ Some b → b ≡ a + 1
  pub is_byte : (a b : ℕ) → ends a ≡ Some b → slice_index text a ≡ byte
  pub finds : (k : ℕ) → k < length text → slice_index text k ≡ byte → ends k ≡ Some (k + 1)

-- two of a brace
abbrev pub pair : ℕ → List ℕ
pair brace = brace ∷ brace ∷ []

none-if : (o : Option ℕ) → ((b : ℕ) → o ≡ Some b → ⊥) → o ≡ None
none-if None never = refl
none-if (Some b) never = absurd (never b refl)

-- a text that begins with two of a brace
begins : (brace : ℕ) (l : List ℕ) → take 2 l ≡ pair brace → (1 < length l) × (get_or l 0 0 ≡ brace) × (get_or l 1 0 ≡ brace)
begins brace [] is = absurd cc
begins brace (x ∷ []) is = absurd cc
begins brace (x ∷ y ∷ l) is = (omega arith, cc, cc)

-- where two of a brace are found as a text, they stand
found-pair : (brace : ℕ) (text : List ℕ) (k b : ℕ) → text_ends (pair brace) text k ≡ Some b → IsPair text brace k
unfolding text_ends
found-pair brace text k b is =
    let both = cond_some _ (k + 2) b is in
    let second = (and_parts (is_boundary text k) _ both.0).1 in
    let stands : take 2 (drop k text) ≡ pair brace = (bytes_eq-Decides _ (pair brace)).0 (and_parts (is_boundary text (k + 2)) _ second).1 in
    grind (arith, begins brace (drop k text) stands, length-drop k text, get_or-drop k text 0 0, get_or-drop k text 1 0)

-- two of a brace in the end of a text stand in the text
in-text : (brace : ℕ) (text : List ℕ) (from k : ℕ) → IsPair (drop from text) brace k → IsPair text brace (from + k)
in-text brace text from k pair_is = grind (arith, length-drop from text, get_or-drop from text k 0, get_or-drop from text (k + 1) 0)

-- where they stand nowhere, the end of the text lacks them
pub pair-lacks : (brace : ℕ) (text : List ℕ) (from : ℕ) → ((k : ℕ) → from ≤ k → ¬ IsPair text brace k) → Lacks (pair brace) (drop from text)
pair-lacks brace text from none k = none-if _ (λ b is. none (from + k) (omega arith) (in-text brace text from k (found-pair brace (drop from text) k b is)))

-- a text from two of a brace on
pub pair-here : (brace : ℕ) (text : List ℕ) (at : ℕ) → IsPair text brace at → drop at text ≡ pair brace ++ drop (at + 2) text
pair-here brace text at is = grind (arith, drop_more text at 0, drop_more text (at + 1) 0)

-- where they stand first, they part the end of the text
pub pair-parts : (brace : ℕ) (text : List ℕ) (from at : ℕ) → IsFirstPair text brace from at
    → IsParted (pair brace) (drop from text) (slice_range text from at) (drop (at + 2) text)
pair-parts brace text from at found =
    let after = found.after in
    let within = found.is.within in
    let here = pair-here brace text at found.is in
    let size : length (slice_range text from at) ≡ at - from = length-take-le (at - from) (drop from text) (omega (arith, length-drop from text)) in
    record {
      joined = sym (take-append-drop (at - from) (drop from text))
          ∙ ap (λ l. slice_range text from at ++ l) (drop-drop (at - from) from text ∙ ap (λ n. drop n text) (omega arith) ∙ here);
      first = λ k low high. none-if _ (λ b is.
          found.first (from + k) (omega arith) (omega (arith, size)) (in-text brace text from k (found-pair brace (drop from text) k b is)));
    }

-- no two braces stand before the first brace, nor where there is none
pub none-before : (ends : ℕ → Option ℕ) (text : List ℕ) (brace from start end : ℕ) → FindsByte ends text brace → StartsFirst ends from (start, end)
    → (k : ℕ) → from ≤ k → k < start → ¬ IsPair text brace k
none-before ends text brace from start end brace_is found k low high is = none-some (k + 1) (sym (found.first k low high) ∙ brace_is.finds k (omega (arith, is.within)) is.first)

pub none-left : (ends : ℕ → Option ℕ) (text : List ℕ) (brace from : ℕ) → FindsByte ends text brace → ((k : ℕ) → from ≤ k → ends k ≡ None)
    → (k : ℕ) → from ≤ k → ¬ IsPair text brace k
none-left ends text brace from brace_is none k low is = none-some (k + 1) (sym (none k low) ∙ brace_is.finds k (omega (arith, is.within)) is.first)

-- a brace that is found, and one behind it
pub pair-found : (ends : ℕ → Option ℕ) (text : List ℕ) (brace start end : ℕ) → FindsByte ends text brace → ends start ≡ Some end → HasByte text end brace → IsPair text brace start
pair-found ends text brace start end brace_is occurs there = grind (arith, brace_is.one_byte start end occurs, brace_is.is_byte start end occurs)

-- where the first brace stands alone, no two stand up to its end
pub none-here : (ends : ℕ → Option ℕ) (text : List ℕ) (brace from start end : ℕ) → FindsByte ends text brace → StartsFirst ends from (start, end) → ¬ HasByte text end brace
    → (k : ℕ) → from ≤ k → k < end → ¬ IsPair text brace k
none-here ends text brace from start end brace_is found none k low high is =
    grind (arith, brace_is.one_byte start end found.occurs, none-before ends text brace from start end brace_is found k low)

-- two braces stand between boundaries
pub pair-start : (brace : ℕ) (text : List ℕ) (at : ℕ) → brace < 128 → IsPair text brace at → IsCharBoundary text at
pair-start brace text at low is = IsCharBoundary-before_ascii text at (omega (arith, is.within)) (omega (arith, is.first))

pub pair-end : (brace : ℕ) (text : List ℕ) (at : ℕ) → brace < 128 → IsUtf8 text → IsPair text brace at → IsCharBoundary text (at + 2)
pair-end brace text at low utf8 is =
    let sum : at + 1 + 1 ≡ at + 2 = omega arith in
    subst (IsCharBoundary text) sum (IsCharBoundary-after_ascii text (at + 1) utf8 is.within (omega (arith, is.second)))

-- where two of a brace stand, they are found as a text
pair-text : (brace : ℕ) (text : List ℕ) (k : ℕ) → brace < 128 → IsUtf8 text → IsPair text brace k → text_ends (pair brace) text k ≡ Some (k + 2)
unfolding text_ends
pair-text brace text k low utf8 is =
    cond-true _ _ _ (and_from (is_boundary text k) _ (is_boundary-true text k (pair-start brace text k low is))
    (and_from (is_boundary text (k + 2)) _ (is_boundary-true text (k + 2) (pair-end brace text k low utf8 is))
    ((bytes_eq-Decides _ (pair brace)).1 (ap (λ l. take 2 l) (pair-here brace text k is)))))

-- where none stand up to a place, a search for both from there finds the first two, or none
pub next-behind : (text : List ℕ) (brace from end : ℕ) (two : List ℕ) (result : Option ℕ) → two ≡ pair brace → brace < 128 → IsUtf8 text → from ≤ end
    → ((k : ℕ) → from ≤ k → k < end → ¬ IsPair text brace k) → IsNextStart (text_ends two text) end result → IsNextPair text brace from result
next-behind text brace from end two None both low utf8 ordered here none = λ k after is. grind (arith, here k after, none k, pair-text brace text k low utf8 is)
next-behind text brace from end two (Some at) both low utf8 ordered here found = record {
  after = omega (arith, ordered, found.1.after);
  is = found-pair brace text at found.0 (ap (λ p. text_ends p text at) (sym both) ∙ found.1.occurs);
  first = λ k after before is. grind (arith, here k after, found.1.first k, pair-text brace text k low utf8 is);
}

-- a hole between the first two braces of either kind
pub cuts-hole : {B S P : Type 0} (text : List ℕ) (from left right : ℕ) (hole : Hole B S P) → IsFirstPair text 123 from left → IsFirstPair text 125 (left + 2) right
    → hole.before.items ≡ slice_range text from left → hole.name.items ≡ slice_range text (left + 2) right → CutsHole (drop from text) hole (drop (right + 2) text)
cuts-hole text from left right hole opens closes before_is name_is = (
  drop (left + 2) text,
  rw before_is (pair-parts 123 text from left opens),
  rw name_is (pair-parts 125 text (left + 2) right closes),
)

-- an end of a text as a range of it
pub end-is : (text : List ℕ) (from n : ℕ) → n ≡ length text → slice_range text from n ≡ drop from text
end-is text from n size = take_all (n - from) (drop from text) (omega (arith, size, length-drop from text))

-- a character of one byte finds each of its byte
pub finds-byte : (sign byte : ℕ) (text : List ℕ) → sign ≡ byte → byte < 128 → IsUtf8 text → FindsByte (char_ends (λ c. c == sign) text) text byte
finds-byte sign byte text named low utf8 = record {
  one_byte = λ a b ends.
      let found = char_ends-is (λ c. c == sign) text a b utf8 ends in
      omega (arith, found.1.3, len_utf8_ascii byte low, ap len_utf8 (same found.1.0 found.1.2));
  is_byte = λ a b ends.
      let found = char_ends-is (λ c. c == sign) text a b utf8 ends in
      grind (arith, get_or-drop a text 0 0, found.1.1.split, same found.1.0 found.1.2, encode_ascii byte low);
  finds = λ k within is.
      let start = IsCharBoundary-before_ascii text k within (omega (arith, is, low)) in
      let found = starts_char text k utf8 start within in
      let c = found.0 in
      let pair_is = some_pair_parts c (slice_index text k) (k + len_utf8 c) (k + 1) (sym found.1.at ∙ char_at-ascii text k utf8 start within (omega (arith, is, low))) in
      char_ends-yes (λ c. c == sign) text k c found.1 (grind (arith, nat_tests, pair_is.0)) ∙ ap (λ n. Some n) pair_is.1;
}
  where
    same : (c : ℕ) → (c == sign) ≡ true → c ≡ byte
    same c is = grind (arith, nat_tests)
