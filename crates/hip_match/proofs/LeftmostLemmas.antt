-- The leftmost list, against the search for the next match.
use Rattle.std.proofs.Common.{◌≡◌, ℕ, zero, suc, ◌+◌, ◌-◌, ◌<◌, ◌≤◌, [], ◌∷◌, Option, Some, None, ap, ◌∙◌, arith}
use Rattle.std.proofs.lemmas.Bool.{cond-true, cond-false, le-leb, lt-leb, leb-true, cases_lt}
use Rattle.std.proofs.lemmas.Option.{none-some, same_Some, cond_some}
use Rattle.hip_match.proofs.OccurrenceLemmas.{option_cases}
use Rattle.hip_match.specs.Occurrence.{StartsFirst, NoneCrosses}
use Rattle.hip_match.specs.Leftmost.{leftmost_from, leftmost_between, end_within}
use Rattle.hip_match.specs.Pieces.{InOrder}

pub leftmost_from-zero : (e : ℕ → Option ℕ) (i n : ℕ) → n ≡ 0 → leftmost_from e 0 i n ≡ []
unfolding leftmost_from
leftmost_from-zero e i n h = grind arith

module _ (e : ℕ → Option ℕ) where
  -- places passed over
  pub leftmost_from-skip : (s i n : ℕ) → leftmost_from e s i n ≡ leftmost_from e 0 (i + s) (n - s)
  unfolding leftmost_from
  leftmost_from-skip zero i n = grind arith
  leftmost_from-skip (suc s) i zero = grind arith
  leftmost_from-skip (suc s) i (suc n) = grind (arith, leftmost_from-skip s (i + 1) n)

  pub leftmost_from-miss : (i n : ℕ) → e i ≡ None → leftmost_from e 0 i (suc n) ≡ leftmost_from e 0 (i + 1) n
  unfolding leftmost_from
  leftmost_from-miss i n h = grind arith

  pub leftmost_from-hit : (i n b : ℕ) → e i ≡ Some b → leftmost_from e 0 i (suc n) ≡ (i, b) ∷ leftmost_from e (b - i - 1) (i + 1) n
  unfolding leftmost_from
  leftmost_from-hit i n b h = grind arith

  -- where nothing starts
  leftmost_from-pass : (d i n : ℕ) → ((k : ℕ) → i ≤ k → k < i + d → e k ≡ None) → leftmost_from e 0 i (d + n) ≡ leftmost_from e 0 (i + d) n
  leftmost_from-pass zero i n h = grind arith
  leftmost_from-pass (suc d) i n h =
      let count : suc d + n ≡ suc (d + n) = omega arith in
      grind (arith, leftmost_from-miss, leftmost_from-pass d (i + 1) n (λ k lo hi. h k (omega arith) (omega arith)))

  pub leftmost_from-to : (i j n : ℕ) → i ≤ j → ((k : ℕ) → i ≤ k → k < j → e k ≡ None) → leftmost_from e 0 i (j - i + n) ≡ leftmost_from e 0 j n
  leftmost_from-to i j n le h = grind (arith, leftmost_from-pass)

  pub leftmost_from-none : (i n : ℕ) → ((k : ℕ) → i ≤ k → k < i + n → e k ≡ None) → leftmost_from e 0 i n ≡ []
  leftmost_from-none i n h = grind (arith, leftmost_from-pass n i 0, leftmost_from-zero)

pub end_within-some : (to b : ℕ) (o : Option ℕ) → o ≡ Some b → b ≤ to → end_within to o ≡ Some b
end_within-some to b o h le = ap (end_within to) h ∙ cond-true _ _ _ (le-leb _ _ le)

pub end_within-past : (to b : ℕ) (o : Option ℕ) → o ≡ Some b → to < b → end_within to o ≡ None
end_within-past to b o h lt = ap (end_within to) h ∙ cond-false _ _ _ (lt-leb _ _ lt)

pub end_within-none : (to : ℕ) (o : Option ℕ) → o ≡ None → end_within to o ≡ None
end_within-none to o h = ap (end_within to) h

module _ (e : ℕ → Option ℕ) (from to : ℕ) where
  abbrev clipped : ℕ → Option ℕ
  clipped k = end_within to (e k)

  -- no match is left
  pub leftmost_between-none : ((k : ℕ) → from ≤ k → e k ≡ None) → leftmost_between e from to ≡ []
  leftmost_between-none h = grind (arith, leftmost_from-none, end_within-none)

  -- the first match, and those after it
  pub leftmost_between-some : (a b next : ℕ) → StartsFirst e from (a, b) → b ≤ to → a < next → b ≤ next → next ≤ to + 1
      → a ≤ b → ((k : ℕ) → a < k → b ≤ k → k < next → e k ≡ None)
      → leftmost_between e from to ≡ (a, b) ∷ leftmost_between e next to
  leftmost_between-some a b next h within past over top ordered quiet =
      let after : from ≤ a = h.after in
      let reach = b - a - 1 in
      let count : to + 1 - from ≡ a - from + suc (to - a) = omega arith in
      let left : to - a - reach ≡ next - (a + 1 + reach) + (to + 1 - next) = omega arith in
      grind (arith, leftmost_from-to clipped from a (suc (to - a)) after, end_within-none, leftmost_from-hit clipped a (to - a) b (end_within-some to b (e a) h.occurs within), end_within-some to b (e a) h.occurs within, leftmost_from-skip, leftmost_from-to)

  -- the next match lies past the window
  pub leftmost_between-past : (a b : ℕ) → StartsFirst e from (a, b) → to < b → NoneCrosses e to → leftmost_between e from to ≡ []
  leftmost_between-past a b h past whole =
      leftmost_from-none clipped from (to + 1 - from) (λ k lo hi. grind (arith, option_cases, end_within-none, end_within-past, none-some, cases_lt, same_Some))

  -- the last match, empty and at the window's end
  pub leftmost_between-last : (a b : ℕ) → StartsFirst e from (a, b) → b ≤ to → a ≡ b → to ≡ b
      → leftmost_between e from to ≡ (a, b) ∷ []
  leftmost_between-last a b h within empty last = grind (arith, leftmost_between-some a b (a + 1) h within, leftmost_from-zero)

-- where each end is at or after its start and at most `to`, the list lies in order
module _ (f : ℕ → Option ℕ) (to : ℕ) (spans : (k m : ℕ) → f k ≡ Some m → (k ≤ m) × (m ≤ to)) where
  leftmost_from-InOrder : (skip i n j : ℕ) → j ≤ i + skip → j ≤ to → InOrder j (leftmost_from f skip i n) to
  unfolding leftmost_from
  leftmost_from-InOrder skip i zero j low high = high
  leftmost_from-InOrder (suc skip) i (suc n) j low high = leftmost_from-InOrder skip (i + 1) n j (omega arith) high
  leftmost_from-InOrder zero i (suc n) j low high =
      option_cases (f i) (λ none. grind (arith, leftmost_from-InOrder 0 (i + 1) n j))
      (λ b some. grind (arith, leftmost_from-InOrder (b - i - 1) (i + 1) n b))

pub end_within-is : (to b : ℕ) (o : Option ℕ) → end_within to o ≡ Some b → (o ≡ Some b) × (b ≤ to)
end_within-is to b o is = grind (arith, none-some, cond_some, leb-true)

pub leftmost_between-InOrder : (e : ℕ → Option ℕ) (from to : ℕ) → ((k m : ℕ) → e k ≡ Some m → k ≤ m) → from ≤ to → InOrder from (leftmost_between e from to) to
leftmost_between-InOrder e from to ordered le = grind (arith, leftmost_from-InOrder, end_within-is)
