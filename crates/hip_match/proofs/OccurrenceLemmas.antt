-- Lemmas of the occurrences of a text.
use Rattle.std.proofs.Common.{◌≡◌, ℕ, ◌+◌, ◌<◌, ◌≤◌, List, Option, Some, None, refl, arith, IsCharBoundary}
use Rattle.std.proofs.lemmas.Bool.{cases_lt}
use Rattle.hip_match.specs.Occurrence.{IsCut}
use Rattle.hip_match.specs.Ready.{IsNextBoundary}

-- an option is empty, or holds a number
pub option_cases : {R : Type 0} (o : Option ℕ) → (o ≡ None → R) → ((b : ℕ) → o ≡ Some b → R) → R
option_cases None f g = f refl
option_cases (Some b) f g = g b refl

-- nothing starts where there is no boundary
pub none_off_boundary : (t : List ℕ) (e : ℕ → Option ℕ) → ((a b : ℕ) → e a ≡ Some b → IsCut t (a, b)) → (k : ℕ) → ¬ IsCharBoundary t k → e k ≡ None
none_off_boundary t e spans k off = option_cases (e k) (λ is. is) (λ b is. absurd (off (spans k b is).start))

-- the next boundary is not past a boundary that follows
pub not_past : (t : List ℕ) (i j to : ℕ) → IsNextBoundary t i j → i < to → IsCharBoundary t to → j ≤ to + 1
not_past t i j to next lt cut = grind (arith, cases_lt)
