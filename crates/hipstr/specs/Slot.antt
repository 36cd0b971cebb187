-- The state of the list machine: for each slot whether it is a text, and a plain list with its kind and its capacity, which is what a
-- clause sees of a handle. No slot has an owner or a position in one.
use Rattle.std.specs.Prelude.{◌≡◌, ℕ, Bool, true, false, List, [], slice_index_or, slice_set}
use Rattle.hip_bytes.specs.Handle.{Handle}
use Rattle.hip_bytes.specs.declared.kind.Kind.TheVariants.{Inline}
use Rattle.hip_bytes.specs.declared.kind.TheConstants.{INLINE_CAPACITY}
use Rattle.hipstr.specs.declared.pool.Slot.{Slot}
use Rattle.hipstr.specs.declared.pool.Slot.TheVariants.{Bytes, Text}

-- a slot of a pool, as the machine sees it
pub record SlotState : Type 0 where
  pub is_text : Bool
  pub handle : Handle

abbrev pub state_of : {B S P : Type 0} → Slot B S P → SlotState
state_of (Bytes handle) = record { is_text = false; handle = handle }
state_of (Text text) = record { is_text = true; handle = text }

-- a slot that holds nothing
abbrev pub empty_slot : SlotState
empty_slot = record { is_text = false; handle = record { kind = Inline; items = []; capacity = INLINE_CAPACITY } }

-- the slot at a position, and an empty one past the end
abbrev pub state_at : List SlotState → ℕ → SlotState
state_at slots i = slice_index_or slots i empty_slot

-- the handle of the slot at a position, and whether it is a text
abbrev pub slot_at : List SlotState → ℕ → Handle
slot_at slots i = (state_at slots i).handle

abbrev pub text_at : List SlotState → ℕ → Bool
text_at slots i = (state_at slots i).is_text

-- the slot at `i` became a text, or bytes, of whose handle P holds; every other slot is as it was
pub record Replaces (old new : List SlotState) (i : ℕ) (is_text : Bool) (P : Handle → Type 0) : Type 0 where
  pub target : P (slot_at new i)
  pub flag : text_at new i ≡ is_text
  pub others : new ≡ slice_set old i (state_at new i)
