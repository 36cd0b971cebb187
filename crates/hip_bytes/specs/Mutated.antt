-- The answers of calls that hand a value's bytes to a closure, in a vector or a `String`, and make the value that of the bytes that the
-- closure leaves there.
use Rattle.std.specs.Prelude.{◌≡◌, ◌+◌, ℕ, List, length, Result, Ok, Err}
use Rattle.std.specs.Borrow.{MutBor}
use Rattle.std.specs.Fn.{Once, FnOnceReturnsAtMut, FnOnceTakesAtMut}
use Rattle.hip_raw.specs.Meter.{RisesAtMost}
use Rattle.hip_bytes.specs.declared.mutate_fault.MutateFault.{MutateFault}
use Rattle.hip_bytes.specs.declared.mutate_fault.MutateFault.TheVariants.{Lend, PutBack}

-- f may be called with any value that shows these items
abbrev pub TakesItems : {V F R : Type 0} → (V → List ℕ) → Once F (MutBor V × Unit {0}) R → F → List ℕ → Type 0
TakesItems {V} shown g f items = (lent : V) → shown lent ≡ items → FnOnceTakesAtMut g f lent

module _ {V F R : Type 0} (shown : V → List ℕ) (g : Once F (MutBor V × Unit {0}) (R × (MutBor V × Unit {0}))) (f : F) (items : List ℕ) where
  -- f was called with a value that shows these items and gave this answer, and P holds of what it left there
  pub record Ran (answer : R) (P : V → Type 0) : Type 0 where
    pub lent : V
    pub holds : shown lent ≡ items
    pub left : V
    pub met : FnOnceReturnsAtMut g f lent answer left
    pub puts : P left

  -- the value has what f left; or it is as it was; or it is empty, and what f left may need memory and is handed back
  abbrev pub MutateAnswers : {S : Type 0} → S → S → (S → List ℕ → Type 0) → (S → Type 0) → (ℕ → Type 0) → Result R (MutateFault R V) → Type 0
  MutateAnswers old new has_put is_emptied needs_memory (Ok answer) = Ran answer (λ left. has_put new (shown left))
  MutateAnswers old new has_put is_emptied needs_memory (Err Lend) = new ≡ old
  MutateAnswers old new has_put is_emptied needs_memory (Err (PutBack answer back)) =
      is_emptied new × needs_memory (length (shown back)) × Ran answer (λ left. back ≡ left)

  -- the rise of a meter by such a call: the items are copied out, and what f left is put back at this cost
  abbrev pub MutateCosts : ℕ → ℕ → (ℕ → ℕ) → Result R (MutateFault R V) → Type 0
  MutateCosts before after put_cost (Ok answer) = Ran answer (λ left. RisesAtMost before after (length items + put_cost (length (shown left))))
  MutateCosts before after put_cost (Err Lend) = RisesAtMost before after (length items)
  MutateCosts before after put_cost (Err (PutBack answer back)) = RisesAtMost before after (length items + put_cost (length (shown back)))
