-- The places in a text that an iterator keeps.
use Rattle.std.specs.Prelude.{◌≡◌, ℕ, ◌<◌, ◌≤◌, Bool, false, Option, List, [], ◌∷◌, ◌++◌, MatchOption}
use Rattle.std.specs.Str.{IsCharBoundary, IsUtf8}
use Rattle.hip_match.specs.Occurrence.{NoneCrosses}
use Rattle.hip_match.specs.Pieces.{InOrder, InOrderBack, ended}

-- two boundaries of a text, one after the other
pub record IsWindow (text : List ℕ) (from to : ℕ) : Type 0 where
  pub utf8 : IsUtf8 text
  pub start : IsCharBoundary text from
  pub end : IsCharBoundary text to
  pub ordered : from ≤ to

-- a walk that isn't done keeps a searcher that is ready at both of its ends
abbrev pub IsGoing : Bool → Type 0 → Type 0 → Type 0
IsGoing done front back = done ≡ false → front × back

-- a window, a pattern that can be searched for, and no occurrence that lies across the window's end
pub record IsFrontWindow (can : Type 0) (text : List ℕ) (ends : ℕ → Option ℕ) (from to : ℕ) : Type 0 where
  pub searchable : can
  pub window : IsWindow text from to
  pub whole : NoneCrosses ends to

-- like `IsFrontWindow`, but no occurrence lies across the window's start
pub record IsBackWindow (can : Type 0) (text : List ℕ) (ends : ℕ → Option ℕ) (from to : ℕ) : Type 0 where
  pub searchable : can
  pub window : IsWindow text from to
  pub whole : NoneCrosses ends from

-- j is the first boundary after i
pub record IsNextBoundary (text : List ℕ) (i j : ℕ) : Type 0 where
  pub after : i < j
  pub boundary : IsCharBoundary text j
  pub none : (k : ℕ) → i < k → k < j → ¬ IsCharBoundary text k

-- i is the last boundary before j
pub record IsPreviousBoundary (text : List ℕ) (j i : ℕ) : Type 0 where
  pub before : i < j
  pub boundary : IsCharBoundary text i
  pub none : (k : ℕ) → i < k → k < j → ¬ IsCharBoundary text k

-- two boundaries of a text, and ranges one after another between them
pub record IsBetween (text : List ℕ) (from : ℕ) (ranges : List (ℕ × ℕ)) (to : ℕ) : Type 0 where
  pub start : IsCharBoundary text from
  pub end : IsCharBoundary text to
  pub in_order : InOrder from ranges to

-- like `IsBetween`, but of ranges that are listed from the back
pub record IsBetweenBack (text : List ℕ) (from : ℕ) (ranges : List (ℕ × ℕ)) (to : ℕ) : Type 0 where
  pub start : IsCharBoundary text from
  pub end : IsCharBoundary text to
  pub in_order : InOrderBack from ranges to

-- r is the last of the old list, which is taken away
abbrev pub TakesLast : List (ℕ × ℕ) → Option (ℕ × ℕ) → List (ℕ × ℕ) → Type 0
TakesLast old r new = MatchOption r ((old ≡ []) × (new ≡ [])) (λ last. old ≡ new ++ last ∷ [])

-- r is the match of the old list whose end cuts off the last part up to n, and the new list has the matches before it
abbrev pub TakesLastCut : ℕ → List (ℕ × ℕ) → Option (ℕ × ℕ) → List (ℕ × ℕ) → Type 0
TakesLastCut n old r new = (i : ℕ) → InOrder i old n → MatchOption r ((ended i old n ≡ ended i [] n) × InOrder i new n)
    (λ m. (ended i old n ≡ ended i new m.1 ++ (m.1, n) ∷ []) × (m.1 ≤ n) × InOrder i new m.1)
