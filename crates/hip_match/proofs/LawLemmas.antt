-- The scan gives the leftmost list, no other list is leftmost, and joining undoes splitting.
use Rattle.std.proofs.Common.{◌≡◌, ℕ, zero, suc, ◌+◌, ◌-◌, ◌<◌, ◌≤◌, List, [], ◌∷◌, ◌++◌, Option, Some, refl, arith, ⊎_elim, length, drop, drop-drop, take_all, le_refl, ◌⊎◌, max, slice_range, eq-eqb, ne_eqb, take-add, append-nil, IsUtf8}
use Rattle.std.specs.Prelude.{⊤}
use Rattle.std.proofs.lemmas.Bool.{cases_lt, cond-true, cond-false, cases_eq}
use Rattle.std.proofs.lemmas.Option.{none-some, same_Some}
use Rattle.hip_match.proofs.OccurrenceLemmas.{option_cases}
use Rattle.hip_match.proofs.LeftmostLemmas.{end_within-is, end_within-some, leftmost_between-InOrder}
use Rattle.hip_match.specs.Leftmost.{leftmost_from, leftmost, end_within, AllOccur, place_after, BeginInOrder, IsListed, BeginsWithin, IsLeftmost}
use Rattle.hip_match.specs.Texts.{text_ends}
use Rattle.hip_match.specs.TextLaws.{text_ends-is, text_ends-spans}
use Rattle.hip_match.proofs.PiecesLemmas.{InOrder-le}
use Rattle.hip_match.specs.Pieces.{InOrder, gaps, ended, split, split_inclusive}
use Rattle.hip_match.specs.Joined.{parts_at, together, rejoined}

module _ (f : ℕ → Option ℕ) where
  scan_occur : (s i n : ℕ) → AllOccur f (leftmost_from f s i n)
  unfolding leftmost_from
  scan_occur s i zero = tt
  scan_occur (suc s) i (suc n) = scan_occur s (i + 1) n
  scan_occur zero i (suc n) = option_cases (f i) (λ none. grind (arith, scan_occur 0 (i + 1) n)) (λ b some. grind (arith, scan_occur (b - i - 1) (i + 1) n))

  scan_order : (s i n j : ℕ) → j ≤ i + s → BeginInOrder j (leftmost_from f s i n)
  unfolding leftmost_from
  scan_order s i zero j le = tt
  scan_order (suc s) i (suc n) j le = scan_order s (i + 1) n j (omega arith)
  scan_order zero i (suc n) j le =
      option_cases (f i) (λ none. grind (arith, scan_order 0 (i + 1) n j))
      (λ b some. grind (arith, scan_order (b - i - 1) (i + 1) n (max b (i + 1))))

  scan_all : (s i n a b : ℕ) → f a ≡ Some b → i + s ≤ a → a < i + n → IsListed a b (leftmost_from f s i n) ⊎ BeginsWithin a (leftmost_from f s i n)
  unfolding leftmost_from
  scan_all s i zero a b is lo hi = absurd (omega arith)
  scan_all (suc s) i (suc n) a b is lo hi = scan_all s (i + 1) n a b is (omega arith) (omega arith)
  scan_all zero i (suc n) a b is lo hi =
      option_cases (f i) (λ none. grind (arith, none-some, cases_lt, scan_all 0 (i + 1) n a b is))
      (λ c some. grind (arith, scan_all (c - i - 1) (i + 1) n a b is, cases_lt a c, same_Some, cases_lt i a))

-- the clipped function of a text is the function itself
AllOccur-clipped : (e : ℕ → Option ℕ) (n : ℕ) (l : List (ℕ × ℕ)) → AllOccur (λ k. end_within n (e k)) l → AllOccur e l
AllOccur-clipped e n [] h = tt
AllOccur-clipped e n (r ∷ l) h = ((end_within-is n r.1 (e r.0) h.0).0, AllOccur-clipped e n l h.1)

pub leftmost-occur : (e : ℕ → Option ℕ) (n : ℕ) → AllOccur e (leftmost e n)
leftmost-occur e n = grind (arith, AllOccur-clipped, scan_occur)

pub leftmost-is : (e : ℕ → Option ℕ) (n : ℕ) → ((a b : ℕ) → e a ≡ Some b → (a ≤ b) × (b ≤ n)) → IsLeftmost e 0 (leftmost e n)
leftmost-is e n spans =
    record {
      occur = leftmost-occur e n;
      in_order = grind (arith, scan_order);
      no_other = λ a b is lo. let span = spans a b is in
          scan_all (λ k. end_within n (e k)) 0 0 (n + 1 - 0) a b (end_within-some n b (e a) is span.1) (omega arith) (omega (arith, span.0, span.1));
    }

-- nothing listed from i on lies before i
not_listed : (l : List (ℕ × ℕ)) (i a b : ℕ) → BeginInOrder i l → a < i → IsListed a b l → ⊥
not_listed [] i a b order lt h = h
not_listed (r ∷ l) i a b order lt h = grind (arith, not_listed l (place_after r) a b order.1)

not_within : (l : List (ℕ × ℕ)) (i a : ℕ) → BeginInOrder i l → a < i → BeginsWithin a l → ⊥
not_within [] i a order lt h = h
not_within (r ∷ l) i a order lt h = grind (arith, not_within l (place_after r) a order.1)

module _ (e : ℕ → Option ℕ) where
  tail : (from : ℕ) (r : ℕ × ℕ) (l : List (ℕ × ℕ)) → IsLeftmost e from (r ∷ l) → IsLeftmost e (place_after r) l
  tail from r l h = grind arith

  -- the first of one list isn't before the first of the other
  not_before : (from : ℕ) (r : ℕ × ℕ) (l : List (ℕ × ℕ)) (s : ℕ × ℕ) (m : List (ℕ × ℕ)) → IsLeftmost e from (r ∷ l) → IsLeftmost e from (s ∷ m) → r.0 < s.0 → ⊥
  not_before from r l s m h g lt =
      let order : BeginInOrder s.0 (s ∷ m) = (omega arith, g.in_order.1) in
      ⊎_elim (λ listed. not_listed (s ∷ m) s.0 r.0 r.1 order lt listed) (λ within. not_within (s ∷ m) s.0 r.0 order lt within) (g.no_other r.0 r.1 h.occur.0 h.in_order.0)

  pub leftmost-unique : (l m : List (ℕ × ℕ)) (from : ℕ) → IsLeftmost e from l → IsLeftmost e from m → l ≡ m
  leftmost-unique [] [] from h g = refl
  leftmost-unique [] (s ∷ m) from h g = grind arith
  leftmost-unique (r ∷ l) [] from h g = grind arith
  leftmost-unique (r ∷ l) (s ∷ m) from h g =
      grind (arith, not_before from r l s m h g, not_before from s m r l g h, cases_lt r.0 s.0, cases_lt s.0 r.0, same_Some, tail, leftmost-unique l m (place_after r) (tail from r l h), tail from r l h, tail from s m g)

-- ---- joining undoes splitting

abbrev AllAre : List ℕ → List ℕ → List (ℕ × ℕ) → Type 0
AllAre t sep [] = ⊤
AllAre t sep (m ∷ ms) = (slice_range t m.0 m.1 ≡ sep) × AllAre t sep ms

slice_range-append : (t : List ℕ) (i j k : ℕ) → i ≤ j → j ≤ k → slice_range t i j ++ slice_range t j k ≡ slice_range t i k
slice_range-append t i j k low high =
    grind (arith, drop-drop (j - i) i t, take-add (j - i) (k - j) (drop i t))

joined-gaps : (t sep : List ℕ) (ms : List (ℕ × ℕ)) (i n : ℕ) → InOrder i ms n → AllAre t sep ms → rejoined sep (parts_at t (gaps i ms n)) ≡ slice_range t i n
joined-gaps t sep [] i n order same = refl
joined-gaps t sep (m ∷ []) i n order same = grind (arith, slice_range-append)
joined-gaps t sep (m ∷ k ∷ ms) i n order same = grind (arith, InOrder-le, slice_range-append, joined-gaps t sep (k ∷ ms) m.1 n order.2 same.1)

together-ended : (t : List ℕ) (ms : List (ℕ × ℕ)) (i n : ℕ) → InOrder i ms n → together (parts_at t (ended i ms n)) ≡ slice_range t i n
together-ended t [] i n order = grind (arith, cond-true, eq-eqb, cond-false, ne_eqb, append-nil, cases_eq)
together-ended t (m ∷ ms) i n order = grind (arith, InOrder-le, slice_range-append, together-ended t ms m.1 n order.2)

AllAre-text : (p t : List ℕ) (l : List (ℕ × ℕ)) → AllOccur (text_ends p t) l → AllAre t p l
AllAre-text p t [] h = tt
AllAre-text p t (m ∷ l) h = grind (arith, text_ends-is p t m.0 m.1 h.0, AllAre-text p t l h.1)

module _ (p t : List ℕ) (utf8 : IsUtf8 t) where
  ordered : InOrder 0 (leftmost (text_ends p t) (length t)) (length t)
  ordered = leftmost_between-InOrder (text_ends p t) 0 (length t) (λ k m is. (text_ends-spans p t k m utf8 is).ordered) (omega arith)

  pub split-joined : rejoined p (parts_at t (split (text_ends p t) (length t))) ≡ t
  split-joined = grind (arith, joined-gaps, ordered, AllAre-text, leftmost-occur, take_all, le_refl)

  pub split_inclusive-together : together (parts_at t (split_inclusive (text_ends p t) (length t))) ≡ t
  split_inclusive-together = grind (arith, together-ended, ordered, take_all, le_refl)

pub ended-together : (e : ℕ → Option ℕ) (t : List ℕ) → ((k m : ℕ) → e k ≡ Some m → k ≤ m) → together (parts_at t (split_inclusive e (length t))) ≡ t
ended-together e t sorted = grind (arith, together-ended, leftmost_between-InOrder, take_all, le_refl)
