-- A list of ranges drawn from both ends: the items of Rust's `DoubleEndedIterator`, which is done when its ends meet.
use Rattle.std.specs.Prelude.{◌≡◌, ℕ, Option, MatchOption, List, [], ◌∷◌}
use Rattle.hip_match.specs.declared.draw.End.{End}
use Rattle.hip_match.specs.declared.draw.End.TheVariants.{Front, Back}

-- the last of a list, of which x is the first, and the list without it
abbrev pub last_of : ℕ × ℕ → List (ℕ × ℕ) → ℕ × ℕ
last_of x [] = x
last_of x (y ∷ l) = last_of y l

abbrev pub but_last : ℕ × ℕ → List (ℕ × ℕ) → List (ℕ × ℕ)
but_last x [] = []
but_last x (y ∷ l) = x ∷ but_last y l

-- the ranges that a script draws from a list: each front the first that is left, each back the last, until the script or the list ends
abbrev pub draw : List (ℕ × ℕ) → List End → List (ℕ × ℕ)
draw l [] = []
draw [] (e ∷ es) = []
draw (x ∷ l) (Front ∷ es) = x ∷ draw l es
draw (x ∷ l) (Back ∷ es) = last_of x l ∷ draw (but_last x l) es

-- the ranges that it leaves
abbrev pub left_by : List (ℕ × ℕ) → List End → List (ℕ × ℕ)
left_by l [] = l
left_by [] (e ∷ es) = []
left_by (x ∷ l) (Front ∷ es) = left_by l es
left_by (x ∷ l) (Back ∷ es) = left_by (but_last x l) es

-- of what a script drew, in turn: what it drew from the front, and what from the back
abbrev pub fronts : List End → List (ℕ × ℕ) → List (ℕ × ℕ)
fronts [] drawn = []
fronts (e ∷ es) [] = []
fronts (Front ∷ es) (x ∷ drawn) = x ∷ fronts es drawn
fronts (Back ∷ es) (x ∷ drawn) = fronts es drawn

abbrev pub backs : List End → List (ℕ × ℕ) → List (ℕ × ℕ)
backs [] drawn = []
backs (e ∷ es) [] = []
backs (Front ∷ es) (x ∷ drawn) = backs es drawn
backs (Back ∷ es) (x ∷ drawn) = x ∷ backs es drawn

-- r is what the end draws from the old list, and the new list is what it leaves, whatever is drawn next
abbrev pub TakesEnd : End → List (ℕ × ℕ) → List (ℕ × ℕ) → Option (ℕ × ℕ) → Type 0
TakesEnd end old new r = MatchOption r ((old ≡ []) × (new ≡ []))
    (λ x. (es : List End) → (draw old (end ∷ es) ≡ x ∷ draw new es) × (left_by old (end ∷ es) ≡ left_by new es))
