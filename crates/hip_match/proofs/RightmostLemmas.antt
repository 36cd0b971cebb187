-- The rightmost list, against the search for the last match.
use Rattle.std.proofs.Common.{◌≡◌, ℕ, zero, suc, ◌+◌, ◌-◌, ◌<◌, ◌≤◌, [], ◌∷◌, Option, Some, None, arith}
use Rattle.std.proofs.lemmas.Bool.{cond-true, cond-false, cases_lt, cases_Bool, eqb-true}
use Rattle.std.proofs.lemmas.Option.{none-some, same_Some}
use Rattle.hip_match.proofs.OccurrenceLemmas.{option_cases}
use Rattle.hip_match.specs.Occurrence.{start_among, ends_at, EndsLast, NoneCrosses}
use Rattle.hip_match.specs.Rightmost.{rightmost_from, rightmost_between}
use Rattle.hip_match.specs.Pieces.{InOrderBack}

-- ---- the start of the occurrence that ends at a place

module _ (e : ℕ → Option ℕ) where
  -- the start that `start_among` finds is one
  pub start_among-is : (from n j a : ℕ) → start_among e from n j ≡ Some a → (from ≤ a) × (a < from + n) × (e a ≡ Some j)
  unfolding start_among
  start_among-is from zero j a is = absurd (none-some a is)
  start_among-is from (suc n) j a is = grind (arith, same_Some, cond-true, eqb-true, cond-false, start_among-is from n j a)

  -- `start_among` finds the start that there is
  pub start_among-found : (from n j a : ℕ) → ((b c : ℕ) → e b ≡ Some j → e c ≡ Some j → b ≡ c) → from ≤ a → a < from + n → e a ≡ Some j → start_among e from n j ≡ Some a
  unfolding start_among
  start_among-found from zero j a one low high is = absurd (omega arith)
  start_among-found from (suc n) j a one low high is =
      grind (arith, cond-true, cond-false, eqb-true, cases_Bool (ends_at (e (from + n)) j), cases_lt, start_among-found from n j a one low)

  pub start_among-none : (from n j : ℕ) → ((a : ℕ) → from ≤ a → a < from + n → ¬ (e a ≡ Some j)) → start_among e from n j ≡ None
  start_among-none from n j none = option_cases (start_among e from n j) (λ is. is) (λ a is. grind (arith, start_among-is from n j a is))

-- ---- the list

module _ (s : ℕ → Option ℕ) where
  pub rightmost_from-skip : (k n : ℕ) → rightmost_from s k n ≡ rightmost_from s 0 (n - k)
  unfolding rightmost_from
  rightmost_from-skip zero n = grind arith
  rightmost_from-skip (suc k) zero = grind arith
  rightmost_from-skip (suc k) (suc j) = grind (arith, rightmost_from-skip k j)

  pub rightmost_from-miss : (j : ℕ) → s j ≡ None → rightmost_from s 0 (suc j) ≡ rightmost_from s 0 j
  unfolding rightmost_from
  rightmost_from-miss j h = grind arith

  pub rightmost_from-hit : (j a : ℕ) → s j ≡ Some a → rightmost_from s 0 (suc j) ≡ (a, j) ∷ rightmost_from s (j - a - 1) j
  unfolding rightmost_from
  rightmost_from-hit j a h = grind arith

  pub rightmost_from-pass : (d n : ℕ) → ((j : ℕ) → n ≤ j → j < n + d → s j ≡ None) → rightmost_from s 0 (n + d) ≡ rightmost_from s 0 n
  rightmost_from-pass zero n h = grind arith
  rightmost_from-pass (suc d) n h =
      let same : n + suc d ≡ suc (n + d) = omega arith in
      grind (arith, rightmost_from-miss, rightmost_from-pass d n (λ j lo hi. h j lo (omega arith)))

  pub rightmost_from-to : (m n : ℕ) → n ≤ m → ((j : ℕ) → n ≤ j → j < m → s j ≡ None) → rightmost_from s 0 m ≡ rightmost_from s 0 n
  rightmost_from-to m n le h = grind (arith, rightmost_from-pass (m - n) n)

  pub rightmost_from-none : (m : ℕ) → ((j : ℕ) → j < m → s j ≡ None) → rightmost_from s 0 m ≡ []
  unfolding rightmost_from
  rightmost_from-none m h = grind (arith, rightmost_from-to m 0)

module _ (e : ℕ → Option ℕ) (from to : ℕ) (ordered : (k m : ℕ) → e k ≡ Some m → k ≤ m) (one : (a b c : ℕ) → e a ≡ Some c → e b ≡ Some c → a ≡ b) where
  abbrev starts : ℕ → Option ℕ
  starts j = start_among e from (j + 1 - from) j

  starts-none : (j : ℕ) → ((a : ℕ) → from ≤ a → ¬ (e a ≡ Some j)) → starts j ≡ None
  starts-none j none = grind (arith, start_among-none)

  -- no match is left
  pub rightmost_between-none : ((a b : ℕ) → e a ≡ Some b → to < b) → rightmost_between e from to ≡ []
  rightmost_between-none h = grind (arith, rightmost_from-none, starts-none)

  -- the last match lies before the window
  pub rightmost_between-past : (a b : ℕ) → EndsLast e to (a, b) → a < from → NoneCrosses e from → rightmost_between e from to ≡ []
  rightmost_between-past a b h past whole = grind (arith, rightmost_from-none, starts-none)

  -- the last match, and those that end up to `prev`
  pub rightmost_between-some : (a b : ℕ) → EndsLast e to (a, b) → from ≤ a → (prev : ℕ) → prev < b → prev ≤ a
      → ((k m : ℕ) → e k ≡ Some m → prev < m → m ≤ a → m < b → ⊥)
      → rightmost_between e from to ≡ (a, b) ∷ rightmost_between e from prev
  rightmost_between-some a b h low prev below under quiet =
      let reach = b - a - 1 in
      let size : a ≤ b = ordered a b h.occurs in
      let here : starts b ≡ Some a = start_among-found e from (b + 1 - from) b a (λ c d. one c d b) low (omega arith) h.occurs in
      grind (arith, rightmost_from-to starts (to + 1) (b + 1), rightmost_from-hit starts b a here, rightmost_from-skip starts reach b, rightmost_from-to starts (b - reach) (prev + 1), starts-none)

  -- the last match, empty and at the window's start
  pub rightmost_between-last : (a b : ℕ) → EndsLast e to (a, b) → a ≡ b → a ≡ from → rightmost_between e from to ≡ (a, b) ∷ []
  rightmost_between-last a b h empty first =
      grind (
        arith,
        rightmost_from-to starts (to + 1) (b + 1),
        rightmost_from-skip starts 0 b,
        rightmost_from-none starts b,
        starts-none,
        rightmost_from-hit starts b a (start_among-found e from (b + 1 - from) b a (λ c d. one c d b) (omega arith) (omega arith) h.occurs),
      )

-- where each start is at most its end and at least `from`, the list lies in order
module _ (s : ℕ → Option ℕ) (from : ℕ) (spans : (j a : ℕ) → s j ≡ Some a → (a ≤ j) × (from ≤ a)) where
  rightmost_from-InOrder : (skip n j : ℕ) → n ≤ j + skip + 1 → from ≤ j → InOrderBack from (rightmost_from s skip n) j
  unfolding rightmost_from
  rightmost_from-InOrder skip zero j high low = low
  rightmost_from-InOrder (suc skip) (suc n) j high low = rightmost_from-InOrder skip n j (omega arith) low
  rightmost_from-InOrder zero (suc n) j high low = option_cases (s n) (λ none. grind (arith, rightmost_from-InOrder 0 n j)) (λ a some. grind (arith, rightmost_from-InOrder (n - a - 1) n a))

pub rightmost_between-InOrder : (e : ℕ → Option ℕ) (from to : ℕ) → ((k m : ℕ) → e k ≡ Some m → k ≤ m) → from ≤ to → InOrderBack from (rightmost_between e from to) to
rightmost_between-InOrder e from to ordered le = grind (arith, rightmost_from-InOrder, start_among-is)
