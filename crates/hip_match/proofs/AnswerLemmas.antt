-- A predicate's answers at all characters as one list, which tells where the set of those that pass occurs.
use Rattle.std.proofs.Common.{◌≡◌, ℕ, zero, suc, ◌+◌, ◌<◌, Bool, [], ◌∷◌, List, arith}
use Rattle.std.proofs.Math.Path.{fun_ext}
use Rattle.std.proofs.Math.Utf8.{scalar_cases}
use Rattle.std.specs.Char.{IsScalar}
use Rattle.hip_match.specs.Characters.{char_ends}
use Rattle.hip_match.specs.Answers.{answer_at}

-- the answers at the n numbers from i on
unfoldable pub answers_from : (ℕ → Bool) → ℕ → ℕ → List Bool
answers_from passes i zero = []
answers_from passes i (suc n) = passes i ∷ answers_from passes (i + 1) n

-- the answers at all characters
unfoldable pub answers_of : (ℕ → Bool) → List Bool
answers_of passes = answers_from passes 0 1114112

answer_at-from : (passes : ℕ → Bool) (i n c : ℕ) → c < n → answer_at (answers_from passes i n) c ≡ passes (i + c)
unfolding answers_from
answer_at-from passes i zero c lt = absurd (omega arith)
answer_at-from passes i (suc n) zero lt = grind arith
answer_at-from passes i (suc n) (suc c) lt = grind (arith, answer_at-from passes (i + 1) n c (omega arith))

pub scalar_below : (c : ℕ) → IsScalar c → c < 1114112
scalar_below c is = grind (arith, scalar_cases)

module _ (p q : ℕ → Bool) (same : (c : ℕ) → IsScalar c → p c ≡ q c) where
  pub same_ends : char_ends p ≡ char_ends q
  same_ends = grind (arith, fun_ext)

-- a list of all answers gives them
pub answered : (passes : ℕ → Bool) (answers : List Bool) → answers ≡ answers_of passes → (c : ℕ) → IsScalar c → answer_at answers c ≡ passes c
unfolding answers_of
answered passes answers are c is = grind (arith, answer_at-from, scalar_below)

pub answered_ends : (passes : ℕ → Bool) (answers : List Bool) → answers ≡ answers_of passes → char_ends (λ c. answer_at answers c) ≡ char_ends passes
answered_ends passes answers are = grind (arith, same_ends, answered)
