-- The pieces that a list of matches cuts a text into, as Rust's documentation of `str` tells them. The text has n bytes.
use Rattle.std.specs.Prelude.{Bool, ℕ, zero, suc, ◌≤◌, ◌==◌, Option, List, [], ◌∷◌, if◌then◌else◌}
use Rattle.hip_match.specs.Leftmost.{leftmost}
use Rattle.hip_match.specs.Rightmost.{rightmost}

-- the ranges lie one after another from i up to n
abbrev pub InOrder : ℕ → List (ℕ × ℕ) → ℕ → Type 0
InOrder i [] n = i ≤ n
InOrder i (m ∷ ms) n = (i ≤ m.0) × (m.0 ≤ m.1) × InOrder m.1 ms n

-- like `InOrder`, but of ranges that are listed from the back
abbrev pub InOrderBack : ℕ → List (ℕ × ℕ) → ℕ → Type 0
InOrderBack i [] n = i ≤ n
InOrderBack i (m ∷ ms) n = (m.1 ≤ n) × (m.0 ≤ m.1) × InOrderBack i ms m.0

-- from i to the first match, from the end of each match to the next, and from the last to n
abbrev pub gaps : ℕ → List (ℕ × ℕ) → ℕ → List (ℕ × ℕ)
gaps i [] n = (i, n) ∷ []
gaps i (m ∷ ms) n = (i, m.0) ∷ gaps m.1 ms n

-- like `gaps`, but of matches that are listed from the back
abbrev pub gaps_back : ℕ → List (ℕ × ℕ) → ℕ → List (ℕ × ℕ)
gaps_back i [] n = (i, n) ∷ []
gaps_back i (m ∷ ms) n = (m.1, n) ∷ gaps_back i ms m.0

-- from i to the end of the first match, from there to the end of each further one, and from the last to n where that is not empty
abbrev pub ended : ℕ → List (ℕ × ℕ) → ℕ → List (ℕ × ℕ)
ended i [] n = if i == n then [] else (i, n) ∷ []
ended i (m ∷ ms) n = (i, m.1) ∷ ended m.1 ms n

-- the ranges without the last, where that is empty
abbrev pub without_empty_last : List (ℕ × ℕ) → List (ℕ × ℕ)
without_empty_last [] = []
without_empty_last (r ∷ []) = if r.0 == r.1 then [] else r ∷ []
without_empty_last (r ∷ s ∷ rs) = r ∷ without_empty_last (s ∷ rs)

-- the ranges without the first, where that is empty
abbrev pub without_empty_first : List (ℕ × ℕ) → List (ℕ × ℕ)
without_empty_first [] = []
without_empty_first (r ∷ rs) = if r.0 == r.1 then rs else r ∷ rs

-- at most `count` ranges; where there are `count`, the last of them runs on to n
abbrev pub at_most_to : ℕ → List (ℕ × ℕ) → ℕ → List (ℕ × ℕ)
at_most_to zero rs n = []
at_most_to (suc count) [] n = []
at_most_to (suc zero) (r ∷ rs) n = (r.0, n) ∷ []
at_most_to (suc (suc count)) (r ∷ rs) n = r ∷ at_most_to (suc count) rs n

-- like `at_most_to`, but of ranges that are listed from the back; where there are `count`, the last of them begins at i
abbrev pub at_most_from : ℕ → List (ℕ × ℕ) → ℕ → List (ℕ × ℕ)
at_most_from zero rs i = []
at_most_from (suc count) [] i = []
at_most_from (suc zero) (r ∷ rs) i = (i, r.1) ∷ []
at_most_from (suc (suc count)) (r ∷ rs) i = r ∷ at_most_from (suc count) rs i

-- the parts that an occurrence ends: without the last where that is empty and is still to be left out
abbrev pub to_terminator : Bool → List (ℕ × ℕ) → List (ℕ × ℕ)
to_terminator ending rs = if ending then without_empty_last rs else rs

-- like `to_terminator`, but of parts that are listed from the back
abbrev pub from_terminator : Bool → List (ℕ × ℕ) → List (ℕ × ℕ)
from_terminator beginning rs = if beginning then without_empty_first rs else rs

-- the methods of `str`
abbrev pub split : (ℕ → Option ℕ) → ℕ → List (ℕ × ℕ)
split ends n = gaps 0 (leftmost ends n) n

abbrev pub split_inclusive : (ℕ → Option ℕ) → ℕ → List (ℕ × ℕ)
split_inclusive ends n = ended 0 (leftmost ends n) n

abbrev pub split_terminator : (ℕ → Option ℕ) → ℕ → List (ℕ × ℕ)
split_terminator ends n = without_empty_last (split ends n)

abbrev pub splitn : ℕ → (ℕ → Option ℕ) → ℕ → List (ℕ × ℕ)
splitn count ends n = at_most_to count (split ends n) n

abbrev pub rsplit : (ℕ → Option ℕ) → ℕ → List (ℕ × ℕ)
rsplit ends n = gaps_back 0 (rightmost ends n) n

abbrev pub rsplit_terminator : (ℕ → Option ℕ) → ℕ → List (ℕ × ℕ)
rsplit_terminator ends n = without_empty_first (rsplit ends n)

abbrev pub rsplitn : ℕ → (ℕ → Option ℕ) → ℕ → List (ℕ × ℕ)
rsplitn count ends n = at_most_from count (rsplit ends n) 0

-- ---- the ranges lie in order within a text of n bytes: each starts at or after the end of the one before and ends at or after its own
-- start, and the last ends at or before the text's end
abbrev pub AreInOrder : ℕ → List (ℕ × ℕ) → Type 0
AreInOrder n ranges = InOrder 0 ranges n

-- like `AreInOrder`, but of ranges that are listed from the back
abbrev pub AreInReverseOrder : ℕ → List (ℕ × ℕ) → Type 0
AreInReverseOrder n ranges = InOrderBack 0 ranges n
