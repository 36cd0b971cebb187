-- The scan gives the rightmost list, and no other list is rightmost.
use Rattle.std.proofs.Common.{◌≡◌, ℕ, zero, suc, ◌+◌, ◌-◌, ◌<◌, ◌≤◌, List, [], ◌∷◌, Option, Some, refl, arith, ◌⊎◌, min}
use Rattle.std.proofs.lemmas.Bool.{cases_lt}
use Rattle.std.proofs.lemmas.Option.{none-some, same_Some}
use Rattle.hip_match.proofs.OccurrenceLemmas.{option_cases}
use Rattle.hip_match.proofs.RightmostLemmas.{start_among-is, start_among-found}
use Rattle.hip_match.specs.Occurrence.{start_among}
use Rattle.hip_match.specs.Leftmost.{AllOccur, IsListed}
use Rattle.hip_match.specs.Rightmost.{rightmost_from, rightmost, place_before, EndInOrder, EndsWithin, IsRightmost}

module _ (e s : ℕ → Option ℕ) (is_start : (j a : ℕ) → s j ≡ Some a → e a ≡ Some j) (found : (a j : ℕ) → e a ≡ Some j → s j ≡ Some a) where
  scan_occur : (k n : ℕ) → AllOccur e (rightmost_from s k n)
  unfolding rightmost_from
  scan_occur k zero = tt
  scan_occur (suc k) (suc n) = scan_occur k n
  scan_occur zero (suc n) = option_cases (s n) (λ none. grind (arith, scan_occur 0 n)) (λ a some. grind (arith, scan_occur (n - a - 1) n))

  scan_order : (k n j : ℕ) → n ≤ j + k → EndInOrder j (rightmost_from s k n)
  unfolding rightmost_from
  scan_order k zero j le = tt
  scan_order (suc k) (suc n) j le = scan_order k n j (omega arith)
  scan_order zero (suc n) j le = option_cases (s n) (λ none. grind (arith, scan_order 0 n j)) (λ a some. grind (arith, scan_order (n - a - 1) n (min n (a + 1))))

  scan_all : (k n a b : ℕ) → e a ≡ Some b → b + k < n → IsListed a b (rightmost_from s k n) ⊎ EndsWithin b (rightmost_from s k n)
  unfolding rightmost_from
  scan_all k zero a b is hi = absurd (omega arith)
  scan_all (suc k) (suc n) a b is hi = scan_all k n a b is (omega arith)
  scan_all zero (suc n) a b is hi =
      option_cases (s n) (λ none. let before : b < n = grind (arith, none-some, cases_lt) in grind (arith, scan_all 0 n a b is))
      (λ c some. grind (arith, scan_all (n - c - 1) n a b is, cases_lt c b, same_Some, cases_lt b n))

pub rightmost-is : (e : ℕ → Option ℕ) (n : ℕ) → ((a b : ℕ) → e a ≡ Some b → (a ≤ b) × (b ≤ n)) → ((a b c : ℕ) → e a ≡ Some c → e b ≡ Some c → a ≡ b)
    → IsRightmost e (n + 1) (rightmost e n)
rightmost-is e n spans one =
    let s : ℕ → Option ℕ = λ j. start_among e 0 (j + 1 - 0) j in
    let is_start : (j a : ℕ) → s j ≡ Some a → e a ≡ Some j = λ j a is. (start_among-is e 0 (j + 1 - 0) j a is).2 in
    let found : (a j : ℕ) → e a ≡ Some j → s j ≡ Some a = λ a j is. grind (arith, start_among-found e 0 (j + 1 - 0) j a) in
    record {
      occur = scan_occur e s is_start found 0 (n + 1);
      in_order = scan_order e s is_start found 0 (n + 1) (n + 1) (omega arith);
      no_other = λ a b is lt. scan_all e s is_start found 0 (n + 1) a b is (omega arith);
    }

not_listed : (l : List (ℕ × ℕ)) (j a b : ℕ) → EndInOrder j l → j ≤ b → IsListed a b l → ⊥
not_listed [] j a b order le h = h
not_listed (r ∷ l) j a b order le h = grind (arith, not_listed l (place_before r) a b order.1)

not_within : (l : List (ℕ × ℕ)) (j b : ℕ) → EndInOrder j l → j ≤ b → EndsWithin b l → ⊥
not_within [] j b order le h = h
not_within (r ∷ l) j b order le h = grind (arith, not_within l (place_before r) b order.1)

module _ (e : ℕ → Option ℕ) (one : (a b c : ℕ) → e a ≡ Some c → e b ≡ Some c → a ≡ b) where
  tail : (below : ℕ) (r : ℕ × ℕ) (l : List (ℕ × ℕ)) → IsRightmost e below (r ∷ l) → IsRightmost e (place_before r) l
  tail below r l h = grind arith

  not_after : (below : ℕ) (r : ℕ × ℕ) (l : List (ℕ × ℕ)) (s : ℕ × ℕ) (m : List (ℕ × ℕ)) → IsRightmost e below (r ∷ l) → IsRightmost e below (s ∷ m) → s.1 < r.1 → ⊥
  not_after below r l s m h g lt =
      let order : EndInOrder r.1 (s ∷ m) = (lt, g.in_order.1) in
      grind (arith, not_listed (s ∷ m) r.1 r.0 r.1 order, not_within (s ∷ m) r.1 r.1 order)

  pub rightmost-unique : (l m : List (ℕ × ℕ)) (below : ℕ) → IsRightmost e below l → IsRightmost e below m → l ≡ m
  rightmost-unique [] [] below h g = refl
  rightmost-unique [] (s ∷ m) below h g = grind arith
  rightmost-unique (r ∷ l) [] below h g = grind arith
  rightmost-unique (r ∷ l) (s ∷ m) below h g =
      grind (arith, not_after below s m r l g h, not_after below r l s m h g, cases_lt r.1 s.1, cases_lt s.1 r.1, tail, rightmost-unique l m (place_before r) (tail below r l h), tail below r l h, tail below s m g)
