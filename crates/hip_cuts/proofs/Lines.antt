-- The lines of a text, or of bytes, each with its end, are the whole.
use Rattle.std.proofs.Common.{◌≡◌, ◌∙◌, ℕ, zero, suc, ◌+◌, ◌-◌, ◌<◌, ◌≤◌, inl, inr, ⊎_elim, ◌==◌, ◌&&◌, true, false, List, [], ◌∷◌, ◌++◌, Option, Some, IsUtf8, length, drop, map, arith, ap, drop-drop, refl, subst, sym, take-add, get_or-drop, add-zero, append-nil, length-drop, get_or-append-add, get_or-take, length-append, length-take-le, eq-eqb, ne_eqb}
use Rattle.std.proofs.lemmas.List.{drop_all, drop_more}
use Rattle.std.proofs.lemmas.Option.{none-some}
use Rattle.std.proofs.lemmas.Bool.{and_from, cases_eq, false≢true, and_parts, cases_Bool, cases_lt, cond-false, cond-true}
use Rattle.std.proofs.lemmas.Bool.Decides.{nat_tests}
use Rattle.std.proofs.lemmas.Str.{IsCharBoundary-before_ascii, byte_from_char, char_from_byte}
use Rattle.std.specs.{Char.len_utf8, Prelude.slice_index, Prelude.slice_range, Prelude.nat_lt}
use Rattle.hip_match.specs.{CharLaws.char_ends-is, CharLaws.char_ends-spans, CharLaws.char_ends-yes, CharLaws.starts_char, Characters.char_ends, Bytes.byte_ends, Bytes.byte_lines, Leftmost.end_within, Leftmost.leftmost, Leftmost.leftmost_from, Pieces.ended, Runs.line_of, Runs.lines, Runs.without_return, Joined.parts_at}
use Rattle.hip_match.proofs.{GapLemmas.byte-is, GapLemmas.byte-some, LeftmostLemmas.end_within-none, LeftmostLemmas.end_within-some, LeftmostLemmas.leftmost_from-hit, LeftmostLemmas.leftmost_from-miss, LeftmostLemmas.leftmost_from-zero, OccurrenceLemmas.option_cases, TextLemmas.rest_slice}
use Rattle.hip_cuts.specs.Lines.{AreLines}

append-range : (t : List ℕ) (i j k : ℕ) → i ≤ j → j ≤ k → slice_range t i j ++ slice_range t j k ≡ slice_range t i k
append-range t i j k low high = grind (arith, drop-drop (j - i) i t, take-add (j - i) (k - j) (drop i t))

length-range : (t : List ℕ) (i j : ℕ) → j ≤ length t → length (slice_range t i j) ≡ j - i
length-range t i j fits = length-take-le (j - i) (drop i t) (omega (arith, length-drop i t))

pub part-byte : (t : List ℕ) (i j k : ℕ) → j ≤ length t → k < length (slice_range t i j) → (slice_index (slice_range t i j) k ≡ slice_index t (i + k)) × (i + k < j)
part-byte t i j k fits lt =
    let below : k < j - i = omega (arith, lt, length-range t i j fits) in
    (get_or-take (j - i) (drop i t) k 0 below ∙ get_or-drop i t k 0, omega arith)

one-more : (t : List ℕ) (k : ℕ) → k < length t → slice_range t k (length t) ≡ slice_index t k ∷ slice_range t (k + 1) (length t)
one-more t k lt = rest_slice t k ∙ drop_more t k 0 lt ∙ ap (λ l. slice_index t k ∷ l) (sym (rest_slice t (k + 1)))

-- line feeds, told by where they end
module _ (t : List ℕ) (e : ℕ → Option ℕ) (feed : (k : ℕ) → k < length t → slice_index t k ≡ 10 → e k ≡ Some (k + 1))
    (is-feed : (k b : ℕ) → e k ≡ Some b → (slice_index t k ≡ 10) × (b ≡ k + 1) × (b ≤ length t)) where
  -- no line feed stands between two places
  abbrev Clear : ℕ → ℕ → Type 0
  Clear s i = (k : ℕ) → s ≤ k → k < i → k < length t → slice_index t k ≡ 10 → ⊥

  lacks : (s i j : ℕ) → j ≤ i → j ≤ length t → Clear s i → (k : ℕ) → k < length (slice_range t s j) → slice_index (slice_range t s j) k ≡ 10 → ⊥
  lacks s i j before fits clear k lt is =
      let at = part-byte t s j k fits lt in
      clear (s + k) (omega arith) (omega (arith, at.1)) (omega (arith, at.1)) (sym at.0 ∙ is)

  abbrev Text : ℕ → List ℕ
  Text s = slice_range t s (length t)

  ended-by-feed : (s i : ℕ) (ls : List (List ℕ)) → s ≤ i → i < length t → slice_index t i ≡ 10 → Clear s i → AreLines ls (Text (i + 1))
      → AreLines (slice_range t (line_of t (s, i + 1)).0 (line_of t (s, i + 1)).1 ∷ ls) (Text s)
  ended-by-feed s i ls ordered lt is clear rest =
      let ends : line_of t (s, i + 1) ≡ without_return t (s, i) = grind (arith, nat_tests, is) in
      let feeds : Text i ≡ 10 ∷ Text (i + 1) = one-more t i lt ∙ ap (λ b. b ∷ Text (i + 1)) is in
      subst (λ (r : ℕ × ℕ). AreLines (slice_range t r.0 r.1 ∷ ls) (Text s)) (sym ends) (
      ⊎_elim
      (λ (yes : (nat_lt s i && slice_index t (i - 1) == 13) ≡ true).
      let both = and_parts (nat_lt s i) (slice_index t (i - 1) == 13) yes in
      let holds : s < i = grind (arith, nat_tests, both.0) in
      let return : slice_index t (i - 1) ≡ 13 = grind (arith, nat_tests, both.1) in
      let back : i - 1 + 1 ≡ i = omega (arith, holds) in
      let more : Text (i - 1) ≡ 13 ∷ 10 ∷ Text (i + 1) = one-more t (i - 1) (omega arith) ∙ ap (λ b. b ∷ Text (i - 1 + 1)) return ∙ ap (λ n. 13 ∷ Text n) back ∙ ap (λ l. 13 ∷ l) feeds in
      subst (λ (r : ℕ × ℕ). AreLines (slice_range t r.0 r.1 ∷ ls) (Text s)) (sym (cond-true _ _ _ yes))
      (13 ∷ 10 ∷ [], Text (i + 1), sym (append-range t s (i - 1) (length t) (omega (arith, holds)) (omega arith)) ∙ ap (λ l. slice_range t s (i - 1) ++ l) more, inl refl, lacks s i (i - 1) (omega arith) (omega arith) clear, rest))
      (λ (no : (nat_lt s i && slice_index t (i - 1) == 13) ≡ false).
      subst (λ (r : ℕ × ℕ). AreLines (slice_range t r.0 r.1 ∷ ls) (Text s)) (sym (cond-false _ _ _ no)) (
        10 ∷ [],
        Text (i + 1),
        sym (append-range t s i (length t) ordered (omega arith)) ∙ ap (λ l. slice_range t s i ++ l) feeds,
        inr (inl (
          refl,
          λ front (is_front : slice_range t s i ≡ front ++ 13 ∷ []).
              let long : i - s ≡ length front + 1 = sym (length-range t s i (omega arith)) ∙ ap length is_front ∙ length-append front (13 ∷ []) in
              let last : slice_index (slice_range t s i) (length front) ≡ 13 = ap (λ l. slice_index l (length front)) is_front ∙ ap (slice_index (front ++ 13 ∷ [])) (sym (add-zero (length front))) ∙ get_or-append-add front (13 ∷ []) 0 0 in
              let at = part-byte t s i (length front) (omega arith) (omega (arith, long, length-range t s i (omega arith))) in
              let place : s + length front ≡ i - 1 = omega (arith, long) in
              let byte : slice_index t (i - 1) ≡ 13 = ap (slice_index t) (sym place) ∙ sym at.0 ∙ last in
              false≢true (sym no ∙ and_from (nat_lt s i) (slice_index t (i - 1) == 13) (grind (arith, nat_tests, long)) (grind (arith, nat_tests, byte))),
        )),
        lacks s i i (omega arith) (omega arith) clear,
        rest,
      ))
      (cases_Bool (nat_lt s i && slice_index t (i - 1) == 13)))

  abbrev feeds : ℕ → Option ℕ
  feeds k = end_within (length t) (e k)

  abbrev Goal : ℕ → List (ℕ × ℕ) → Type 0
  Goal s rs = AreLines (parts_at t (map (line_of t) rs)) (Text s)

  clear-more : (s i : ℕ) → Clear s i → (i < length t → slice_index t i ≡ 10 → ⊥) → Clear s (i + 1)
  clear-more s i clear not k low high lt is =
      ⊎_elim (λ (less : k < i). clear k low less lt is)
      (λ (ge : i ≤ k). let same : k ≡ i = omega arith in not (omega arith) (ap (slice_index t) (sym same) ∙ is))
      (cases_lt k i)

  the-rest : (s : ℕ) → s ≤ length t → Clear s (length t + 1) → Goal s (ended s [] (length t))
  the-rest s fits clear =
      ⊎_elim
      (λ (same : s ≡ length t). subst (Goal s) (sym (cond-true _ _ _ (eq-eqb s (length t) same))) (rest_slice t s ∙ drop_all s t (omega arith)))
      (λ (other : s ≡ length t → ⊥).
      let open_end : line_of t (s, length t) ≡ (s, length t) =
      ⊎_elim
      (λ (yes : (nat_lt s (length t) && slice_index t (length t - 1) == 10) ≡ true).
      let both = and_parts (nat_lt s (length t)) (slice_index t (length t - 1) == 10) yes in
      let holds : s < length t = grind (arith, nat_tests, both.0) in
      absurd (clear (length t - 1) (omega arith) (omega arith) (omega arith) (grind (arith, nat_tests, both.1))))
      (λ no. cond-false _ _ _ no)
      (cases_Bool (nat_lt s (length t) && slice_index t (length t - 1) == 10)) in
      let some : 0 < length (slice_range t s (length t)) = omega (arith, length-range t s (length t) (omega arith), other) in
      subst (Goal s) (sym (cond-false _ _ _ (ne_eqb s (length t) other)))
      (subst (λ (r : ℕ × ℕ). AreLines (slice_range t r.0 r.1 ∷ []) (Text s)) (sym open_end)
      ([], [], sym (append-nil (Text s)), inr (inr (refl, refl, some)), lacks s (length t + 1) (length t) (omega arith) (omega arith) clear, refl)))
      (cases_eq s (length t))

  all : (n s i : ℕ) → s ≤ i → i + n ≡ length t + 1 → s ≤ length t → Clear s i → Goal s (ended s (leftmost_from feeds 0 i n) (length t))
  all zero s i ordered count fits clear =
      subst (λ ms. Goal s (ended s ms (length t))) (sym (leftmost_from-zero feeds i 0 refl)) (the-rest s fits (subst (Clear s) (omega (arith, count)) clear))
  all (suc n) s i ordered count fits clear =
      option_cases (e i)
      (λ none.
      let more = all n s (i + 1) (omega arith) (omega (arith, count)) fits (clear-more s i clear (λ lt is. none-some _ (sym none ∙ feed i lt is))) in
      subst (λ ms. Goal s (ended s ms (length t))) (sym (leftmost_from-miss feeds i n (end_within-none (length t) _ none))) more)
      (λ b found.
      let at = is-feed i b found in
      let more = all n (i + 1) (i + 1) (omega arith) (omega (arith, count)) (omega (arith, at.1, at.2)) (λ k low high lt is. absurd (omega arith)) in
      let hit : leftmost_from feeds 0 i (suc n) ≡ (i, i + 1) ∷ leftmost_from feeds 0 (i + 1) n =
      leftmost_from-hit feeds i n b (end_within-some (length t) b _ found at.2)
      ∙ ap (λ k. (i, k) ∷ leftmost_from feeds (k - i - 1) (i + 1) n) at.1
      ∙ ap (λ k. (i, i + 1) ∷ leftmost_from feeds k (i + 1) n) (omega arith) in
      subst (λ ms. Goal s (ended s ms (length t))) (sym hit) (ended-by-feed s i _ ordered (omega (arith, at.1, at.2)) at.0 clear more))

  lines_by : AreLines (parts_at t (map (line_of t) (ended 0 (leftmost e (length t)) (length t)))) t
  lines_by =
      let from_start = all (length t + 1 - 0) 0 0 (omega arith) (omega arith) (omega arith) (λ k low high lt is. absurd (omega arith)) in
      subst (AreLines (parts_at t (map (line_of t) (ended 0 (leftmost e (length t)) (length t))))) (rest_slice t 0) from_start

module _ (t : List ℕ) (utf8 : IsUtf8 t) where
  feed : (k : ℕ) → k < length t → slice_index t k ≡ 10 → char_ends (λ c. c == 10) t k ≡ Some (k + 1)
  feed k lt is =
      let cut = IsCharBoundary-before_ascii t k lt (omega (arith, is)) in
      let starts = starts_char t k utf8 cut lt in
      let first : slice_index (drop k t) 0 ≡ 10 = get_or-drop k t 0 0 ∙ ap (slice_index t) (add-zero k) ∙ is in
      let same : starts.0 ≡ 10 = char_from_byte (drop k t) (drop (k + len_utf8 starts.0) t) starts.0 starts.1.split (omega (arith, first)) (omega (arith, length-drop k t)) ∙ first in
      char_ends-yes (λ c. c == 10) t k starts.0 starts.1 (ap (λ c. c == 10) same) ∙ ap (λ c. Some (k + len_utf8 c)) same

  is-feed : (k b : ℕ) → char_ends (λ c. c == 10) t k ≡ Some b → (slice_index t k ≡ 10) × (b ≡ k + 1) × (b ≤ length t)
  is-feed k b is =
      let found = (char_ends-is (λ c. c == 10) t k b utf8 is).1 in
      let same : found.0 ≡ 10 = grind (arith, nat_tests, found.2) in
      let first : slice_index (drop k t) 0 ≡ found.0 = byte_from_char (drop k t) (drop (k + len_utf8 found.0) t) found.0 found.1.split (omega (arith, same)) in
      (ap (slice_index t) (sym (add-zero k)) ∙ sym (get_or-drop k t 0 0) ∙ first ∙ same, found.3 ∙ ap (λ c. k + len_utf8 c) same, (char_ends-spans (λ c. c == 10) t k b utf8 is).end.0)

  pub lines_are : AreLines (parts_at t (lines t)) t
  lines_are = lines_by t (char_ends (λ c. c == 10) t) feed is-feed

pub byte_lines_are : (t : List ℕ) → AreLines (parts_at t (byte_lines t)) t
byte_lines_are t =
    lines_by t (byte_ends (λ b. b == 10) t) (λ k lt is. byte-some (λ b. b == 10) t k lt (grind (arith, nat_tests, is)))
    (λ k b is. let at = byte-is (λ b. b == 10) t k b is in (grind (arith, nat_tests, at.1), at.2, omega (arith, at.0, at.2)))
