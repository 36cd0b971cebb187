-- The declared lists lie in order.
use Rattle.std.proofs.Common.{◌≡◌, ℕ, zero, suc, ◌≤◌, List, [], ◌∷◌, map, arith, ltb-true, if◌then◌else◌, Bool}
use Rattle.std.proofs.lemmas.Bool.{cond-true, cond-false, and_parts}
use Rattle.hip_match.specs.Pieces.{InOrder, InOrderBack, gaps, gaps_back, ended, at_most_to, at_most_from, without_empty_last, without_empty_first}
use Rattle.hip_match.specs.Runs.{nonempty, line_of}
use Rattle.hip_match.proofs.PiecesLemmas.{InOrder-le, InOrderBack-le}

InOrder-from : (l : List (ℕ × ℕ)) (i j n : ℕ) → i ≤ j → InOrder j l n → InOrder i l n
InOrder-from [] i j n le h = omega (arith, h)
InOrder-from (m ∷ l) i j n le h = (omega (arith, h.0), h.1, h.2)

InOrderBack-to : (l : List (ℕ × ℕ)) (i j n : ℕ) → j ≤ n → InOrderBack i l j → InOrderBack i l n
InOrderBack-to [] i j n le h = omega (arith, h)
InOrderBack-to (m ∷ l) i j n le h = (omega (arith, h.0), h.1, h.2)

-- either branch
either : {A : Type 0} (P : A → Type 0) (b : Bool) (x y : A) → P x → P y → P (if b then x else y)
either P b x y px py = grind (arith, cond-true, cond-false)

pub gaps-InOrder : (ms : List (ℕ × ℕ)) (i n : ℕ) → InOrder i ms n → InOrder i (gaps i ms n) n
gaps-InOrder [] i n h = (omega arith, h, omega arith)
gaps-InOrder (m ∷ ms) i n h = grind (arith, InOrder-from, gaps-InOrder ms m.1 n h.2)

pub ended-InOrder : (ms : List (ℕ × ℕ)) (i n : ℕ) → InOrder i ms n → InOrder i (ended i ms n) n
ended-InOrder [] i n h = grind (arith, either)
ended-InOrder (m ∷ ms) i n h = (omega arith, omega (arith, h.0, h.1), ended-InOrder ms m.1 n h.2)

pub without_empty_last-InOrder : (l : List (ℕ × ℕ)) (i n : ℕ) → InOrder i l n → InOrder i (without_empty_last l) n
without_empty_last-InOrder [] i n h = h
without_empty_last-InOrder (r ∷ []) i n h = grind (arith, either, InOrder-le)
without_empty_last-InOrder (r ∷ s ∷ l) i n h = (h.0, h.1, without_empty_last-InOrder (s ∷ l) r.1 n h.2)

pub at_most_to-InOrder : (count : ℕ) (l : List (ℕ × ℕ)) (i n : ℕ) → InOrder i l n → InOrder i (at_most_to count l n) n
at_most_to-InOrder zero l i n h = InOrder-le l i n h
at_most_to-InOrder (suc count) [] i n h = h
at_most_to-InOrder (suc zero) (r ∷ l) i n h = grind (arith, InOrder-le)
at_most_to-InOrder (suc (suc count)) (r ∷ l) i n h = (h.0, h.1, at_most_to-InOrder (suc count) l r.1 n h.2)

pub nonempty-InOrder : (l : List (ℕ × ℕ)) (i n : ℕ) → InOrder i l n → InOrder i (nonempty l) n
nonempty-InOrder [] i n h = h
nonempty-InOrder (r ∷ l) i n h = grind (arith, either, InOrder-from, nonempty-InOrder l r.1 n h.2)

-- a line starts where its part does, and ends within it
abbrev Within : ℕ × ℕ → ℕ × ℕ → Type 0
Within r s = (s.0 ≡ r.0) × (s.0 ≤ s.1) × (s.1 ≤ r.1)

line_of-Within : (t : List ℕ) (r : ℕ × ℕ) → r.0 ≤ r.1 → Within r (line_of t r)
line_of-Within t r le = grind (arith, and_parts, cond-false, cond-true, ltb-true)

pub lines-InOrder : (t : List ℕ) (l : List (ℕ × ℕ)) (i n : ℕ) → InOrder i l n → InOrder i (map (line_of t) l) n
lines-InOrder t [] i n h = h
lines-InOrder t (r ∷ l) i n h = grind (arith, line_of-Within, InOrder-from, lines-InOrder t l r.1 n h.2)

-- ---- from the back

pub gaps_back-InOrderBack : (ms : List (ℕ × ℕ)) (i n : ℕ) → InOrderBack i ms n → InOrderBack i (gaps_back i ms n) n
gaps_back-InOrderBack [] i n h = (omega arith, h, omega arith)
gaps_back-InOrderBack (m ∷ ms) i n h = grind (arith, InOrderBack-to, gaps_back-InOrderBack ms i m.0 h.2)

pub without_empty_first-InOrderBack : (l : List (ℕ × ℕ)) (i n : ℕ) → InOrderBack i l n → InOrderBack i (without_empty_first l) n
without_empty_first-InOrderBack l i n h = grind (arith, either, InOrderBack-to)

pub at_most_from-InOrderBack : (count : ℕ) (l : List (ℕ × ℕ)) (i n : ℕ) → InOrderBack i l n → InOrderBack i (at_most_from count l i) n
at_most_from-InOrderBack zero l i n h = InOrderBack-le l i n h
at_most_from-InOrderBack (suc count) [] i n h = h
at_most_from-InOrderBack (suc zero) (r ∷ l) i n h = grind (arith, InOrderBack-le)
at_most_from-InOrderBack (suc (suc count)) (r ∷ l) i n h = (h.0, h.1, at_most_from-InOrderBack (suc count) l i r.0 h.2)
