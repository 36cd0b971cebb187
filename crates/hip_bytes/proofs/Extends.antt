-- Handles that are extended by what an iterator gives.
use Rattle.std.proofs.Common.{◌≡◌, ℕ, zero, suc, Bool, List, [], length, Option, Result, Ok, Err, OnOk, OnErr, inl, inr, ap, refl, subst, sym}
use Rattle.hip_bytes.specs.Handle.{Handle}
use Rattle.hip_bytes.specs.Change.{IsPushed, PushAnswers}
use Rattle.hip_bytes.specs.Cost.{ExtendNeedsMemory}
use Rattle.hip_bytes.specs.Join.{gap_at, GivesAll, GivesFirst}
use Rattle.hip_bytes.specs.Made.{ExtendAnswers, GatherAnswers}
use Rattle.hip_bytes.specs.declared.grow_fault.GrowFault.{GrowFault}
use Rattle.hip_bytes.specs.declared.grow_fault.GrowFault.TheVariants.{Memory, TooLong}

-- an empty separator leaves no gap
pub no_gap : (i : ℕ) → [] ≡ gap_at i []
no_gap zero = refl
no_gap (suc i) = refl

-- what an iterator gave at last, it gave first
pub gives_first : {I T A : Type 0} (into : I → T → Type 0) (steps : T → Option A → T → Type 0) (value : I) (P Q : List A → Type 0)
    → ((xs : List A) → P xs → Q xs) → GivesAll into steps value P → GivesFirst into steps value Q
gives_first into steps value P Q weaker (it, xs, made, (last, (ended, given, stops)), holds) = (it, xs, ended, made, given, weaker xs holds)

-- a handle of what was given, which was pushed
pub extended : {I T A E : Type 0} (shares : Bool) (shown : A → List ℕ) (into : I → T → Type 0) (steps : T → Option A → T → Type 0) (items : I) (old new addition : Handle)
    (pushed : Result (Unit {0}) E) (result : Result (Unit {0}) GrowFault) → GatherAnswers shown into steps items [] (Ok addition) → PushAnswers shares old addition.items pushed new
    → OnOk pushed (result ≡ Ok tt) → OnErr pushed (result ≡ Err Memory) → ExtendAnswers shares shown into steps items old result new
extended shares shown into steps items old new addition (Ok done) result (holds, (it, xs, made, drains, is)) push fine refused =
    let P : Result (Unit {0}) GrowFault → Type 0 = λ r. ExtendAnswers shares shown into steps items old r new in
    let Q : List ℕ → Type 0 = λ more. IsPushed shares old new more in
    subst P (sym fine) (it, xs, made, drains, subst Q is push)
extended shares shown into steps items old new addition (Err error) result (holds, gives) push fine refused =
    let P : Result (Unit {0}) GrowFault → Type 0 = λ r. ExtendAnswers shares shown into steps items old r new in
    let Q : ℕ → Type 0 = λ n. ExtendNeedsMemory shares old n in
    subst P (sym refused) (push.1, gives_first into steps items _ _ (λ xs is. subst Q (ap length is) (inr push.0)) gives)

-- a handle of what was given that was refused
pub not_extended : {I T A : Type 0} (shares : Bool) (shown : A → List ℕ) (into : I → T → Type 0) (steps : T → Option A → T → Type 0) (items : I) (old new : Handle) (fault : GrowFault)
    → GatherAnswers shown into steps items [] (Err fault) → new ≡ old → ExtendAnswers shares shown into steps items old (Err fault) new
not_extended shares shown into steps items old new Memory (it, xs, later, made, given, long) same = (same, (it, xs, later, made, given, inl long))
not_extended shares shown into steps items old new TooLong given same = (same, given)

pub ruleset extends = (no_gap, extended, not_extended)
