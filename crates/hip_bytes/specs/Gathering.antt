-- A list that is being made of others. No public clause cites this module.
use Rattle.std.specs.Prelude.{◌≡◌, ℕ, ◌+◌, ◌≤◌, Bool, true, false, List, length, if◌then◌else◌, ◌&&◌, not}
use Rattle.std.specs.Str.{is_utf8}
use Rattle.hip_raw.specs.Meter.{RisesAtLeast}
use Rattle.hip_bytes.specs.declared.gathering.Place.{Place}
use Rattle.hip_bytes.specs.declared.gathering.Place.TheVariants.{Handle, Vector}
use Rattle.hip_bytes.specs.declared.kind.TheConstants.{INLINE_CAPACITY}

-- the bytes so far, for how many there is room, and whether they lie in the handle itself
pub record Gathered : Type 0 where
  pub items : List ℕ
  pub room : ℕ
  pub in_handle : Bool

abbrev pub gathered_in : Place → Gathered
gathered_in (Handle inline) = record { items = inline; room = INLINE_CAPACITY; in_handle = true }
gathered_in (Vector filling) = record { items = filling.items; room = filling.capacity; in_handle = false }

-- bytes that moved from the handle into a vector were copied once more
abbrev pub spill_cost : Bool → Bool → ℕ
spill_cost before after = if before && not after then INLINE_CAPACITY else 0

-- the text of a value so far, and the number of bytes that were copied for it
pub record Drafted : Type 0 where
  pub items : List ℕ
  pub counted : ℕ

-- the bytes so far are a text, each copied once, and once more where they moved into a vector
pub record IsDraft (made : Gathered) (counted : ℕ) : Type 0 where
  pub utf8 : is_utf8 made.items ≡ true
  pub at_most : counted ≤ length made.items + (if made.in_handle then 0 else INLINE_CAPACITY)
  pub at_least : RisesAtLeast 0 counted (length made.items)
