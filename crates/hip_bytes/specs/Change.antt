-- The answers of calls that change a handle, and the handle that they leave. A refused call leaves all as it was.
use Rattle.std.specs.Prelude.{◌≡◌, ℕ, ◌-◌, ◌<◌, ◌≤◌, Bool, false, IsUtf8, List, [], ◌∷◌, ◌++◌, length, take, min, Option, Some, None, Result, Ok, Err}
use Rattle.hip_bytes.specs.Handle.{Handle}
use Rattle.hip_bytes.specs.Kinds.{cut_kind, kept_capacity, owned_kind, PushedKind, HasCapacity}
use Rattle.hip_bytes.specs.Cost.{CutNeedsMemory, PushNeedsMemory, WriteNeedsMemory}
use Rattle.hip_bytes.specs.declared.kind.Kind.TheVariants.{Allocated}

-- the handle got these items at its end; where there are none, it is as it was
pub record IsPushed (shares : Bool) (old new : Handle) (addition : List ℕ) : Type 0 where
  pub items : new.items ≡ old.items ++ addition
  pub kind : 0 < length addition → PushedKind shares old.kind (length new.items) new.kind
  pub capacity : 0 < length addition → HasCapacity new.kind (length new.items) new.capacity
  pub unchanged : length addition ≡ 0 → new ≡ old
  pub kept : shares ≡ false → old.kind ≡ Allocated → old.capacity ≤ new.capacity

-- a push adds its items, or is refused where they may need memory
abbrev pub PushAnswers : {T E : Type 0} → Bool → Handle → List ℕ → Result T E → Handle → Type 0
PushAnswers shares old addition (Ok done) new = IsPushed shares old new addition
PushAnswers shares old addition (Err error) new = PushNeedsMemory shares old.kind old.capacity (length old.items) (length addition) × (new ≡ old)

-- the handle got a text at its end
abbrev pub PushesText : Bool → Handle → Handle → Type 0
PushesText shares old new = (text : List ℕ) × IsUtf8 text × IsPushed shares old new text

-- the handle keeps its first `len` items; where it has no more, it is as it was
pub record IsShortened (old new : Handle) (len : ℕ) : Type 0 where
  pub items : new.items ≡ take len old.items
  pub kind : len < length old.items → new.kind ≡ cut_kind old.kind len
  pub capacity : len < length old.items → new.capacity ≡ kept_capacity old.kind len old.capacity
  pub unchanged : length old.items ≤ len → new ≡ old

-- the last item is taken off, where there is one
abbrev pub PopAnswers : Handle → Option ℕ → Handle → Type 0
PopAnswers old (Some byte) new = (old.items ≡ new.items ++ byte ∷ []) × IsShortened old new (length old.items - 1)
PopAnswers old None new = (old.items ≡ []) × (new ≡ old)

-- the handle holds these items in place of its own, as many as it had
pub record IsRewritten (shares : Bool) (old new : Handle) (items : List ℕ) : Type 0 where
  pub items_are : new.items ≡ items
  pub kind : new.kind ≡ owned_kind old.kind (length old.items)
  pub capacity : HasCapacity new.kind (length new.items) new.capacity
  pub kept : shares ≡ false → old.kind ≡ Allocated → new.capacity ≡ old.capacity

-- a call that writes over the items does so, or is refused where that may need memory
abbrev pub WriteAnswers : {T E : Type 0} → Bool → Handle → List ℕ → Result T E → Handle → Type 0
WriteAnswers shares old items (Ok done) new = IsRewritten shares old new items
WriteAnswers shares old items (Err error) new = WriteNeedsMemory shares old.kind (length old.items) × (new ≡ old)

-- the handle gave room back, down to `room` bytes
pub record IsShrunk (old new : Handle) (room : ℕ) : Type 0 where
  pub items : new.items ≡ old.items
  pub kind : new.kind ≡ cut_kind old.kind room
  pub capacity : HasCapacity new.kind (length new.items) new.capacity
  pub kept : new.kind ≡ Allocated → min old.capacity room ≤ new.capacity
  pub shrunk : new.kind ≡ Allocated → new.capacity ≤ old.capacity

-- a call that gives room back does so, or is refused where that may need memory
abbrev pub ShrinkAnswers : {T E : Type 0} → Handle → ℕ → Result T E → Handle → Type 0
ShrinkAnswers old room (Ok done) new = IsShrunk old new room
ShrinkAnswers old room (Err error) new = CutNeedsMemory old.kind room × (new ≡ old)
