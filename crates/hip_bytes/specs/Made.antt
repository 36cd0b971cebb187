-- The answers of calls that make a handle. A refusal says where memory may be needed.
use Rattle.std.specs.Prelude.{◌≡◌, ℕ, ◌*◌, ◌^◌, ◌<◌, ◌≤◌, Bool, List, [], length, Option, Result, Ok, Err}
use Rattle.std.specs.List.{join_by, repeat}
use Rattle.hip_raw.specs.Meter.{RisesAtLeast, RisesAtMost}
use Rattle.hip_bytes.specs.Handle.{Handle}
use Rattle.hip_bytes.specs.Kinds.{cut_kind, owned_kind, Holds, HoldsByLength}
use Rattle.hip_bytes.specs.Change.{IsPushed}
use Rattle.hip_bytes.specs.Cost.{extend_cost, CopyNeedsMemory, CutNeedsMemory, ExtendNeedsMemory, OwnNeedsMemory}
use Rattle.hip_bytes.specs.Join.{join_cost, repeated_kind, GivesAll, GivesFirst, RepeatNeedsMemory}
use Rattle.hip_bytes.specs.declared.grow_fault.GrowFault.{GrowFault}
use Rattle.hip_bytes.specs.declared.grow_fault.GrowFault.TheVariants.{Memory, TooLong}
use Rattle.hip_bytes.specs.declared.kind.Kind.TheVariants.{Allocated}
use Rattle.hip_bytes.specs.declared.kind.TheConstants.{INLINE_CAPACITY}

-- a handle of these items, by length
abbrev pub MakeAnswers : {E : Type 0} → List ℕ → Result Handle E → Type 0
MakeAnswers items (Ok handle) = HoldsByLength handle items
MakeAnswers items (Err error) = INLINE_CAPACITY < length items

-- a handle of the source's items and kind
abbrev pub CloneAnswers : {E : Type 0} → Handle → Result Handle E → Type 0
CloneAnswers source (Ok copy) = Holds copy source.kind source.items
CloneAnswers source (Err error) = source.kind ≡ Allocated

-- the part of a source with these of its items
abbrev pub IsPart : Handle → Handle → List ℕ → Type 0
IsPart source part items = Holds part (cut_kind source.kind (length items)) items

abbrev pub CutAnswers : {E : Type 0} → Handle → List ℕ → Result Handle E → Type 0
CutAnswers source items (Ok part) = IsPart source part items
CutAnswers source items (Err error) = CutNeedsMemory source.kind (length items)

-- the source's items, which no other value lends; an owner is kept as it is. A refused source is handed back
pub record IsOwned (source owned : Handle) : Type 0 where
  pub holds : Holds owned (owned_kind source.kind (length source.items)) source.items
  pub kept : source.kind ≡ Allocated → owned.capacity ≡ source.capacity

abbrev pub OwnedAnswers : Handle → Result Handle Handle → Type 0
OwnedAnswers source (Ok owned) = IsOwned source owned
OwnedAnswers source (Err back) = OwnNeedsMemory source.kind (length source.items) × (back ≡ source)

-- a handle of the source's kind that no other value lends, with these items, as many as the source has
abbrev pub CopyAnswers : {E : Type 0} → Handle → List ℕ → Result Handle E → Type 0
CopyAnswers source items (Ok copy) = Holds copy (owned_kind source.kind (length source.items)) items
CopyAnswers source items (Err error) = CopyNeedsMemory source.kind (length source.items)

-- a list that is put together, by length; it is too long exactly where its length is no `usize`
abbrev pub JoinAnswers : List ℕ → Result Handle GrowFault → Type 0
JoinAnswers items (Ok handle) = HoldsByLength handle items × (length items < 2 ^ 64)
JoinAnswers items (Err Memory) = (INLINE_CAPACITY < length items) × (length items < 2 ^ 64)
JoinAnswers items (Err TooLong) = 2 ^ 64 ≤ length items

-- the source's items `n` times
abbrev pub RepeatAnswers : Handle → ℕ → Result Handle GrowFault → Type 0
RepeatAnswers source n (Ok handle) =
    Holds handle (repeated_kind source.kind (length source.items) n) (repeat n source.items) × (n * length source.items < 2 ^ 64)
RepeatAnswers source n (Err Memory) = RepeatNeedsMemory source.kind (length source.items) n × (n * length source.items < 2 ^ 64)
RepeatAnswers source n (Err TooLong) = 2 ^ 64 ≤ n * length source.items

-- a list that is put together of the pieces that an iterator gives, whose bytes are those that `shown` tells, by length. It is too long,
-- and may need memory, by what was given so far
abbrev pub GatherAnswers : {I T A : Type 0} → (A → List ℕ) → (I → T → Type 0) → (T → Option A → T → Type 0) → I → List ℕ → Result Handle GrowFault → Type 0
GatherAnswers shown into steps pieces sep (Ok handle) = HoldsByLength handle handle.items × GivesAll into steps pieces (λ given. handle.items ≡ join_by shown sep given)
GatherAnswers shown into steps pieces sep (Err Memory) = GivesFirst into steps pieces (λ given. INLINE_CAPACITY < length (join_by shown sep given))
GatherAnswers shown into steps pieces sep (Err TooLong) = GivesFirst into steps pieces (λ given. 2 ^ 64 ≤ length (join_by shown sep given))

-- the rise of a meter by such a call: a list that was put together costs no less than its bytes
abbrev pub GatherCosts : {I T A : Type 0} → Bool → (A → List ℕ) → (I → T → Type 0) → (T → Option A → T → Type 0) → I → List ℕ → Result Handle GrowFault → ℕ → ℕ → Type 0
GatherCosts shares shown into steps pieces sep (Ok handle) old new =
    RisesAtMost old new (join_cost shares (length handle.items)) × RisesAtLeast old new (length handle.items)
GatherCosts shares shown into steps pieces sep (Err fault) old new = GivesFirst into steps pieces (λ given. RisesAtMost old new (join_cost shares (length (join_by shown sep given))))

-- a handle to which the items of an iterator were pushed, one behind another; a refused one is as it was
abbrev pub ExtendAnswers : {I T A : Type 0} → Bool → (A → List ℕ) → (I → T → Type 0) → (T → Option A → T → Type 0) → I → Handle → Result (Unit {0}) GrowFault → Handle → Type 0
ExtendAnswers shares shown into steps items old (Ok done) new = GivesAll into steps items (λ given. IsPushed shares old new (join_by shown [] given))
ExtendAnswers shares shown into steps items old (Err Memory) new = (new ≡ old) × GivesFirst into steps items (λ given. ExtendNeedsMemory shares old (length (join_by shown [] given)))
ExtendAnswers shares shown into steps items old (Err TooLong) new = (new ≡ old) × GivesFirst into steps items (λ given. 2 ^ 64 ≤ length (join_by shown [] given))

-- the rise of a meter by such a call
abbrev pub ExtendCosts : {I T A : Type 0} → Bool → (A → List ℕ) → (I → T → Type 0) → (T → Option A → T → Type 0) → I → Handle → ℕ → ℕ → Type 0
ExtendCosts shares shown into steps items old before after =
    GivesFirst into steps items (λ given. RisesAtMost before after (extend_cost shares (length old.items) (length (join_by shown [] given))))
