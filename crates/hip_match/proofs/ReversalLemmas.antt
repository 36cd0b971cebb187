-- For a pattern whose occurrences are never empty, and never start in one another, the rightmost list is the leftmost one reversed.
use Rattle.std.proofs.lemmas.Bool.Decides.{nat_tests}
use Rattle.std.proofs.lemmas.Grind.{common_steps}
use Rattle.std.proofs.Common.{◌≡◌, ℕ, zero, suc, ◌+◌, ◌-◌, ◌<◌, ◌≤◌, [], ◌∷◌, ◌++◌, Option, Some, None, ap, ◌∙◌, arith, ⊎_elim, reverse}
use Rattle.std.proofs.lemmas.Bool.{cases_lt}
use Rattle.std.proofs.lemmas.List.{reverse-append, append-nil}
use Rattle.std.proofs.lemmas.Option.{none-some}
use Rattle.hip_match.proofs.OccurrenceLemmas.{option_cases}
use Rattle.hip_match.proofs.LeftmostLemmas.{leftmost_from-zero, leftmost_from-skip, leftmost_from-hit, leftmost_from-none, end_within-some, end_within-none, end_within-is}
use Rattle.hip_match.proofs.RightmostLemmas.{rightmost_from-skip, rightmost_from-hit, rightmost_from-miss, rightmost_from-none, start_among-is, start_among-found, start_among-none}
use Rattle.hip_match.specs.Occurrence.{start_among, NoneCrosses}
use Rattle.hip_match.specs.Leftmost.{leftmost_from, leftmost_between, end_within}
use Rattle.hip_match.specs.Rightmost.{rightmost_from, rightmost_between}

-- the list up to a place that no match crosses, and the list from there on
module _ (f : ℕ → Option ℕ) where
  pub leftmost_from-split : (s i m n : ℕ) → s ≤ m → ((k b : ℕ) → f k ≡ Some b → i ≤ k → k < i + m → b ≤ i + m)
      → leftmost_from f s i (m + n) ≡ leftmost_from f s i m ++ leftmost_from f 0 (i + m) n
  unfolding leftmost_from
  leftmost_from-split zero i zero n le clean =
      let same : i ≡ i + 0 = omega arith in
      grind (arith, same)
  leftmost_from-split (suc s) i zero n le clean = absurd (omega arith)
  leftmost_from-split (suc s) i (suc m) n le clean =
      let same : i + 1 + m ≡ i + suc m = omega arith in
      let count : suc m + n ≡ suc (m + n) = omega arith in
      grind (arith, same, leftmost_from-split s (i + 1) m n (omega arith) (λ k b is lo hi. let top : b ≤ i + suc m = clean k b is (omega arith) (omega arith) in omega arith))
  leftmost_from-split zero i (suc m) n le clean =
      let same : i + 1 + m ≡ i + suc m = omega arith in
      let count : suc m + n ≡ suc (m + n) = omega arith in
      let within : (k b : ℕ) → f k ≡ Some b → i + 1 ≤ k → k < i + 1 + m → b ≤ i + 1 + m =
      λ k b is lo hi. grind arith in
      ap (leftmost_from f 0 i) count
      ∙ option_cases (f i)
      (λ none.
      grind (arith, same, leftmost_from-split 0 (i + 1) m n (omega arith) within))
      (λ b some.
      let top : b ≤ i + suc m = clean i b some (omega arith) (omega arith) in
      grind (arith, same, leftmost_from-split (b - i - 1) (i + 1) m n (omega arith) within))

module _ (e : ℕ → Option ℕ) (from to : ℕ)
    (nonempty : (a b : ℕ) → e a ≡ Some b → a < b)
    (apart : (a b c d : ℕ) → e a ≡ Some b → e c ≡ Some d → a < c → b ≤ c)
    (whole : NoneCrosses e from) where
  pub one : (a b c : ℕ) → e a ≡ Some c → e b ≡ Some c → a ≡ b
  one a b c left right = grind arith

  abbrev clipped : ℕ → Option ℕ
  clipped k = end_within to (e k)

  abbrev starts : ℕ → Option ℕ
  starts j = start_among e from (j + 1 - from) j

  starts-found : (a j : ℕ) → e a ≡ Some j → from ≤ a → starts j ≡ Some a
  starts-found a j is low =
      let up : a < j = nonempty a j is in
      start_among-found e from (j + 1 - from) j a (λ b c it at. one b c j it at) low (omega arith) is

  -- the list up to a place that no match crosses, and the list from there on
  parted : (mid end : ℕ) → from ≤ mid → mid ≤ end → NoneCrosses e mid
      → leftmost_from clipped 0 from (end - from) ≡ leftmost_from clipped 0 from (mid - from) ++ leftmost_from clipped 0 mid (end - mid)
  parted mid end low le clean =
      let count : end - from ≡ (mid - from) + (end - mid) = omega arith in
      let place : from + (mid - from) ≡ mid = omega arith in
      let within : (i b : ℕ) → clipped i ≡ Some b → from ≤ i → i < from + (mid - from) → b ≤ from + (mid - from) = λ i b is lo hi. grind (arith, end_within-is) in
      grind (arith, count, place, leftmost_from-split clipped 0 from (mid - from) (end - mid) (omega arith) within)

  none_yet : (k : ℕ) → k ≤ from → leftmost_from clipped 0 from (k - from) ≡ reverse (rightmost_from starts 0 (k + 1))
  none_yet k ge = grind (arith, leftmost_from-zero, rightmost_from-none, start_among-none)

  reversed : (fuel k : ℕ) → k ≤ fuel → from ≤ k → k ≤ to → NoneCrosses e k
      → leftmost_from clipped 0 from (k - from) ≡ reverse (rightmost_from starts 0 (k + 1))
  reversed zero k small low high clean = none_yet k (omega arith)
  reversed (suc fuel) k small low high clean =
      let next : k + 1 ≡ suc k = omega arith in
      option_cases (starts k)
      (λ none.
      ⊎_elim
      (λ (some : from < k).
      let before = k - 1 in
      let clear : NoneCrosses e before = λ a b is lt. grind (arith, nat_tests, common_steps, none-some, starts-found, cases_lt) in
      let quiet : clipped before ≡ None = grind (arith, nat_tests, common_steps, option_cases, end_within-none, none-some, starts-found) in
      let empty : leftmost_from clipped 0 before (k - before) ≡ [] = grind (arith, nat_tests, common_steps, leftmost_from-none) in
      let later = reversed fuel before (omega arith) (omega arith) (omega arith) clear in
      let left = parted before k (omega arith) (omega arith) clear in
      grind (arith, nat_tests, common_steps, append-nil, rightmost_from-miss))
      (λ (ge : k ≤ from). none_yet k ge)
      (cases_lt from k))
      (λ a some.
      let found = start_among-is e from (k + 1 - from) k a some in
      let up : a < k = nonempty a k found.2 in
      let clear : NoneCrosses e a = λ c d is lt. apart c d a k is found.2 lt in
      let reach = k - a - 1 in
      let more : k - a ≡ suc reach = omega arith in
      let under : k - reach ≡ a + 1 = omega arith in
      let one : leftmost_from clipped 0 a (k - a) ≡ (a, k) ∷ [] =
      ap (leftmost_from clipped 0 a) more ∙ leftmost_from-hit clipped a reach k (end_within-some to k (e a) found.2 high)
      ∙ ap (λ l. (a, k) ∷ l) (grind (arith, nat_tests, common_steps, leftmost_from-skip, leftmost_from-zero)) in
      let back : rightmost_from starts 0 (k + 1) ≡ (a, k) ∷ rightmost_from starts 0 (a + 1) =
      ap (rightmost_from starts 0) next ∙ rightmost_from-hit starts k a some ∙ ap (λ l. (a, k) ∷ l) (rightmost_from-skip starts reach k ∙ ap (rightmost_from starts 0) under) in
      let later = reversed fuel a (omega arith) found.0 (omega arith) clear in
      let left = parted a k found.0 (omega arith) clear in
      grind (arith, nat_tests, common_steps, reverse-append))

  -- between two places that no match crosses
  pub leftmost_between-reverse : from ≤ to → NoneCrosses e to → leftmost_between e from to ≡ reverse (rightmost_between e from to)
  leftmost_between-reverse le clean =
      let empty : leftmost_from clipped 0 to (to + 1 - to) ≡ [] = grind (arith, leftmost_from-none) in
      let left = parted to (to + 1) le (omega arith) clean in
      let all = reversed to to (omega arith) le (omega arith) clean in
      grind (arith, append-nil)
