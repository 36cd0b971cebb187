-- The answers of pushes, by where the bytes lay.
use Rattle.std.proofs.Common.{◌≡◌, ℕ, ◌<◌, ◌≤◌, Bool, true, false, if◌then◌else◌, List, length, Result, OnOk, ap, le_refl, arith}
use Rattle.std.proofs.lemmas.Bool.{le-leb, lt-leb}
use Rattle.hip_raw.specs.Held.{Held}
use Rattle.hip_raw.specs.Meter.{RisesAtLeast, RisesAtMost, times_copied}
use Rattle.hip_bytes.specs.Handle.{Handle}
use Rattle.hip_bytes.specs.Change.{IsPushed, PushAnswers}
use Rattle.hip_bytes.specs.Cost.{push_cost, PushIsPaid, PushNeedsMemory}
use Rattle.hip_bytes.specs.Kinds.{by_length}
use Rattle.hip_bytes.specs.declared.kind.Kind.TheVariants.{Inline, Allocated}
use Rattle.hip_bytes.specs.declared.kind.TheConstants.{INLINE_CAPACITY}

pub is_short : (len : ℕ) → len ≤ INLINE_CAPACITY → by_length len ≡ Inline
is_short len short = ap (λ b. if b then Inline else Allocated) (le-leb len INLINE_CAPACITY short)

pub is_long : (len : ℕ) → INLINE_CAPACITY < len → by_length len ≡ Allocated
is_long len long = ap (λ b. if b then Inline else Allocated) (lt-leb len INLINE_CAPACITY long)

abbrev pub Pushed : Bool → Handle → Handle → List ℕ → ℕ → ℕ → Type 0
Pushed shares old new ys m m' =
    IsPushed shares old new ys × RisesAtMost m m' (push_cost shares (length old.items) (length ys)) × RisesAtLeast m m' (length ys) × PushIsPaid shares old new (length ys) m m'

pub all_copied : (shares : Bool) (n : ℕ) → n ≤ times_copied shares n
all_copied true n = le_refl n
all_copied false n = omega arith

abbrev pub owner_handle : Held → Handle
owner_handle held = record { kind = Allocated; items = held.items; capacity = held.capacity }

abbrev pub Refused : Bool → Handle → Handle → List ℕ → ℕ → ℕ → Type 0
Refused shares old new ys m m' =
    (PushNeedsMemory shares old.kind old.capacity (length old.items) (length ys) × (new ≡ old)) × RisesAtMost m m' (push_cost shares (length old.items) (length ys)) × PushIsPaid shares old new (length ys) m m'

abbrev pub Answered : {E : Type 0} → Bool → Handle → Handle → List ℕ → Result (Unit {0}) E → ℕ → ℕ → Type 0
Answered shares old new ys r m m' =
    PushAnswers shares old ys r new × RisesAtMost m m' (push_cost shares (length old.items) (length ys)) × OnOk r (RisesAtLeast m m' (length ys)) × PushIsPaid shares old new (length ys) m m'
