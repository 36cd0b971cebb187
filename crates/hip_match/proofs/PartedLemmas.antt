-- The first occurrence of a text in another parts it.
use Rattle.std.proofs.Common.{◌≡◌, ℕ, zero, suc, ◌+◌, ◌<◌, ◌≤◌, Bool, List, [], ◌∷◌, Option, None, Some, length, drop, arith, subst, sym, ◌∙◌, ◌-◌, take-append-drop, drop-drop, length-take-le, slice_range}
use Rattle.std.proofs.lemmas.Bool.{cases_lt}
use Rattle.std.proofs.lemmas.Option.{none-some}
use Rattle.hip_match.specs.Leftmost.{leftmost, leftmost_from, end_within}
use Rattle.hip_match.specs.Bytes.{byte_ends}
use Rattle.hip_match.specs.Occurrence.{NoneStarts, StartsFirst}
use Rattle.hip_match.specs.Parted.{IsParted, Lacks}
use Rattle.hip_match.specs.Texts.{text_ends}
use Rattle.hip_match.specs.TextLaws.{text_ends-is}
use Rattle.hip_match.proofs.GapLemmas.{byte-is}
use Rattle.hip_match.proofs.LawLemmas.{leftmost-occur}
use Rattle.hip_match.proofs.LeftmostLemmas.{end_within-some}
use Rattle.hip_match.proofs.OccurrenceLemmas.{option_cases}
use Rattle.hip_match.proofs.TextLemmas.{rest_slice}

-- nothing starts before the first of the leftmost list, and nothing at all where that is empty
FirstIs : (ℕ → Option ℕ) → ℕ → ℕ → List (ℕ × ℕ) → Type 0
FirstIs f i n [] = (k : ℕ) → i ≤ k → k < i + n → f k ≡ None
FirstIs f i n (m ∷ ms) = NoneStarts f i m.0

module _ (f : ℕ → Option ℕ) where
  none_more : (i n : ℕ) → f i ≡ None → (l : List (ℕ × ℕ)) → FirstIs f (i + 1) n l → FirstIs f i (suc n) l
  unfolding FirstIs
  none_more i n none l later = grind (arith, FirstIs, cases_lt)

  first_is : (i n : ℕ) → FirstIs f i n (leftmost_from f 0 i n)
  unfolding leftmost_from FirstIs
  first_is i zero = λ k low high. absurd (omega arith)
  first_is i (suc n) = grind (arith, FirstIs, option_cases, none_more, first_is (i + 1) n)

-- where the clipped search gives nothing, the pattern doesn't occur: no occurrence ends past the text
unclipped : (p t : List ℕ) (k : ℕ) → end_within (length t) (text_ends p t k) ≡ None → text_ends p t k ≡ None
unclipped p t k none = grind (arith, option_cases, end_within-some, none-some, text_ends-is)

module _ (p t : List ℕ) where
  abbrev clipped : ℕ → Option ℕ
  clipped k = end_within (length t) (text_ends p t k)

  pub Lacks-none : leftmost (text_ends p t) (length t) ≡ [] → Lacks p t
  unfolding FirstIs
  Lacks-none none = grind (arith, FirstIs, first_is, unclipped, option_cases, text_ends-is, cases_lt)

  pub IsParted-first : (m : ℕ × ℕ) (ms : List (ℕ × ℕ)) (front back : List ℕ) → leftmost (text_ends p t) (length t) ≡ m ∷ ms
      → front ≡ slice_range t 0 m.0 → back ≡ slice_range t m.1 (length t) → IsParted p t front back
  unfolding FirstIs
  IsParted-first m ms front back found is_front is_back =
      let occurs : text_ends p t m.0 ≡ Some m.1 = grind (arith, leftmost-occur) in
      grind (arith, FirstIs, first_is, text_ends-is p t m.0 m.1 occurs, rest_slice t m.1, length-take-le, take-append-drop (length p) (drop m.0 t), drop-drop (length p) m.0 t, take-append-drop m.0 t, unclipped)

-- ---- bytes

module _ (p : ℕ → Bool) (t : List ℕ) where
  byte_unclipped : (k : ℕ) → end_within (length t) (byte_ends p t k) ≡ None → byte_ends p t k ≡ None
  byte_unclipped k none = option_cases (byte_ends p t k) (λ free. free)
      (λ b is. let at = byte-is p t k b is in absurd (none-some b (sym none ∙ end_within-some (length t) b _ is (omega (arith, at.0, at.2)))))

  pub byte_nowhere : leftmost (byte_ends p t) (length t) ≡ [] → (k : ℕ) → byte_ends p t k ≡ None
  unfolding FirstIs
  byte_nowhere none k = option_cases (byte_ends p t k) (λ free. free)
      (λ b is. let at = byte-is p t k b is in absurd (none-some b (sym (byte_unclipped k (subst (FirstIs (λ k. end_within (length t) (byte_ends p t k)) 0 (length t + 1 - 0)) none (first_is (λ k. end_within (length t) (byte_ends p t k)) 0 (length t + 1 - 0)) k (omega arith) (omega (arith, at.0)))) ∙ is)))

  pub byte_first : (m : ℕ × ℕ) (ms : List (ℕ × ℕ)) → leftmost (byte_ends p t) (length t) ≡ m ∷ ms → StartsFirst (byte_ends p t) 0 m
  unfolding FirstIs
  byte_first m ms found =
      let occurs : byte_ends p t m.0 ≡ Some m.1 = grind (arith, leftmost-occur) in
      record {
        after = omega arith;
        occurs = occurs;
        first = λ k low high. byte_unclipped k (subst (FirstIs (λ k. end_within (length t) (byte_ends p t k)) 0 (length t + 1 - 0)) found (first_is (λ k. end_within (length t) (byte_ends p t k)) 0 (length t + 1 - 0)) k low high);
      }
