-- The lines of bytes, by the parts between line feeds.
use Rattle.std.proofs.Common.{◌≡◌, ◌∙◌, ℕ, zero, suc, ◌+◌, ◌-◌, ◌<◌, ◌≤◌, ◌==◌, Bool, true, false, List, [], ◌∷◌, ◌++◌, Option, None, length, map, slice_index, ap, refl, arith, ⊎_elim, eq-eqb, ne_eqb, if◌then◌else◌}
use Rattle.std.proofs.lemmas.Bool.{cases_lt, cond-true, cond-false, and_from}
use Rattle.std.proofs.lemmas.Bool.Decides.{nat_tests}
use Rattle.std.proofs.lemmas.Grind.{common_steps}
use Rattle.std.proofs.lemmas.List.{map-append}
use Rattle.hip_match.specs.Bytes.{byte_ends, byte_lines, ended_lines, lines_left, open_lines}
use Rattle.hip_match.specs.Leftmost.{leftmost_from, end_within}
use Rattle.hip_match.specs.Pieces.{ended, gaps, split}
use Rattle.hip_match.specs.Runs.{line_of, without_return}
use Rattle.hip_match.proofs.GapLemmas.{byte-is, byte-some}
use Rattle.hip_match.proofs.LeftmostLemmas.{end_within-none, end_within-some, leftmost_from-hit, leftmost_from-miss}
use Rattle.hip_match.proofs.OccurrenceLemmas.{option_cases}

module _ (t : List ℕ) where
  is_feed : ℕ → Bool
  is_feed b = b == 10

  abbrev e : ℕ → Option ℕ
  e = byte_ends (λ b. b == 10) t

  abbrev f : ℕ → Option ℕ
  f k = end_within (length t) (e k)

  pub open-more : (r : ℕ × ℕ) (i n : ℕ) (ms : List (ℕ × ℕ)) → open_lines t (r ∷ gaps i ms n) ≡ without_return t r ∷ open_lines t (gaps i ms n)
  open-more r i n [] = refl
  open-more r i n (m ∷ ms) = refl

  line-kept : (r : ℕ × ℕ) → (r.0 < r.1 → e (r.1 - 1) ≡ None) → r.1 ≤ length t → line_of t r ≡ r
  line-kept r quiet fits = grind (arith, nat_tests, common_steps, byte-some (λ b. b == 10) t (r.1 - 1))

  line-ended : (s i : ℕ) → s ≤ i → slice_index t i ≡ 10 → line_of t (s, i + 1) ≡ without_return t (s, i)
  line-ended s i le is = grind (arith, nat_tests, common_steps, and_from)

  lines_from : (s i k : ℕ) → s ≤ i → s ≤ length t → i + k ≡ length t + 1 → ((j : ℕ) → s ≤ j → j < i → e j ≡ None)
      → map (line_of t) (ended s (leftmost_from f 0 i k) (length t)) ≡ open_lines t (gaps s (leftmost_from f 0 i k) (length t))
  unfolding leftmost_from
  lines_from s i zero le fits size quiet =
      let whole = line-kept (s, length t) (λ lt. quiet (length t - 1) (omega arith) (omega arith)) (omega arith) in
      grind (arith, nat_tests, common_steps, whole)
  lines_from s i (suc k) le fits size quiet = option_cases (e i)
      (λ none.
      let later = lines_from s (i + 1) k (omega arith) fits (omega arith) (λ j lo hi. ⊎_elim (λ (lt : j < i). quiet j lo lt) (λ (ge : i ≤ j). let same : j ≡ i = omega arith in ap e same ∙ none) (cases_lt j i)) in
      let miss = leftmost_from-miss f i k (end_within-none (length t) (e i) none) in
      rw miss later)
      (λ b some.
      let here = byte-is (λ b. b == 10) t i b some in
      let later = lines_from (i + 1) (i + 1) k (omega arith) (omega (arith, here.0)) (omega arith) (λ j lo hi. absurd (omega arith)) in
      grind (arith, nat_tests, common_steps, leftmost_from-hit f i k b (end_within-some (length t) b (e i) some (omega (arith, here.0, here.2))), open-more, line-ended))

  pub lines_of_parts : byte_lines t ≡ open_lines t (split (byte_ends (λ b. b == 10) t) (length t))
  lines_of_parts = lines_from 0 0 (length t + 1 - 0) (omega arith) (omega arith) (omega arith) (λ j lo hi. absurd (omega arith))

  -- a line at the end
  open-last : (l : List (ℕ × ℕ)) (r : ℕ × ℕ) → r.0 < r.1 → open_lines t (l ++ r ∷ []) ≡ ended_lines t l ++ r ∷ []
  open-last [] r some = cond-false _ _ _ (ne_eqb r.0 r.1 (omega arith))
  open-last (x ∷ []) r some = ap (λ l. without_return t x ∷ l) (open-last [] r some)
  open-last (x ∷ y ∷ l) r some = ap (λ l. without_return t x ∷ l) (open-last (y ∷ l) r some)

  open-none : (l : List (ℕ × ℕ)) (r : ℕ × ℕ) → r.0 ≡ r.1 → open_lines t (l ++ r ∷ []) ≡ ended_lines t l
  open-none [] r none = cond-true _ _ _ (eq-eqb r.0 r.1 none)
  open-none (x ∷ []) r none = ap (λ l. without_return t x ∷ l) (open-none [] r none)
  open-none (x ∷ y ∷ l) r none = ap (λ l. without_return t x ∷ l) (open-none (y ∷ l) r none)

  -- like `open-last` and `open-none`, of the list that was left
  pub last-open : (old new : List (ℕ × ℕ)) (r : ℕ × ℕ) → old ≡ new ++ r ∷ [] → r.0 < r.1 → open_lines t old ≡ ended_lines t new ++ r ∷ []
  last-open old new r is some = ap (open_lines t) is ∙ open-last new r some

  pub past-open : (old new : List (ℕ × ℕ)) (r : ℕ × ℕ) → old ≡ new ++ r ∷ [] → r.0 ≡ r.1 → open_lines t old ≡ ended_lines t new
  past-open old new r is none = ap (open_lines t) is ∙ open-none new r none

  -- a line at the front
  pub next-line : (u : List ℕ) (is_open done : Bool) (old : List (ℕ × ℕ)) (r : ℕ × ℕ) (i n : ℕ) (ms : List (ℕ × ℕ)) → u ≡ t
      → old ≡ r ∷ (if done then [] else gaps i ms n) → (is_open ≡ true → done ≡ true → ⊥)
      → lines_left t is_open old ≡ without_return u r ∷ lines_left u is_open (if done then [] else gaps i ms n)
  next-line u false done old r i n ms same is inside = rw same (ap (map (without_return t)) is)
  next-line u true false old r i n ms same is inside = rw same (ap (open_lines t) is ∙ open-more r i n ms)
  next-line u true true old r i n ms same is inside = absurd (inside refl refl)

  -- a line before the last line feed
  pub last-line : (old new : List (ℕ × ℕ)) (r : ℕ × ℕ) → old ≡ new ++ r ∷ [] → ended_lines t old ≡ ended_lines t new ++ without_return t r ∷ []
  last-line old new r is = ap (map (without_return t)) is ∙ map-append (without_return t) new (r ∷ [])
