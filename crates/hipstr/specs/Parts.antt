-- Pieces that are made in spare slots before they go to their targets, so that a refused one changes no slot.
use Rattle.std.specs.Prelude.{◌≡◌, ◌≤◌, ℕ, ◌+◌, Bool, true, List, [], ◌∷◌, length, Option, Some, None, Result, Ok, Err, IfOk, replicate, slice_range, slice_set, take}
use Rattle.hip_bytes.specs.Handle.{Handle}
use Rattle.hip_bytes.specs.Cost.{PartCounts, cut_cost}
use Rattle.hip_bytes.specs.Made.{CutAnswers}
use Rattle.hip_bytes.specs.Meter.{RisesAtLeast, RisesAtMost}
use Rattle.hip_cuts.specs.Piece.{IsPartAt, Left, part_cost, parts_cost}
use Rattle.hip_match.specs.Draw.{draw}
use Rattle.hip_match.specs.declared.draw.End.{End}
use Rattle.hipstr.specs.Cut.{SomeNeedsMemory}
use Rattle.hipstr.specs.Slot.{SlotState, empty_slot}

-- empty slots, one at least for each part that a script draws
pub record HasRoom (script : List End) (slots : List SlotState) : Type 0 where
  pub empty : slots ≡ replicate (length slots) empty_slot
  pub within : length script ≤ length slots

-- the first slots are the source's parts at these ranges, as texts, and all others are empty
abbrev pub HoldParts : Handle → List (ℕ × ℕ) → List SlotState → Type 0
HoldParts source [] slots = slots ≡ replicate (length slots) empty_slot
HoldParts source (range ∷ ranges) [] = ⊥
HoldParts source (range ∷ ranges) (slot ∷ slots) = (slot.is_text ≡ true) × IsPartAt source range slot.handle × HoldParts source ranges slots

-- the answer of a call that makes parts in empty slots: their number, or that one is refused, and then the slots are as they were
abbrev pub PartsAnswer : {E : Type 0} → Handle → List (ℕ × ℕ) → List SlotState → Result ℕ E → List SlotState → Type 0
PartsAnswer source ranges old (Ok count) new = (count ≡ length ranges) × HoldParts source ranges new
PartsAnswer source ranges old (Err error) new = SomeNeedsMemory source.kind ranges × (new ≡ old)

-- the number of bytes that are counted where a part of the source was made and became a slot, and where many were
abbrev pub part_count : Bool → Handle → SlotState → ℕ
part_count shares source part = cut_cost shares source.kind (length part.handle.items)

abbrev pub parts_count : Bool → Handle → List SlotState → ℕ
parts_count shares source [] = 0
parts_count shares source (part ∷ parts) = part_count shares source part + parts_count shares source parts

-- like `PartsAnswer`, within the cost of these parts, each of which is counted
pub record MakesParts {E : Type 0} (shares : Bool) (source : Handle) (ranges : List (ℕ × ℕ)) (old : List SlotState) (result : Result ℕ E) (new : List SlotState) (before after : ℕ) : Type 0 where
  pub made : PartsAnswer source ranges old result new
  pub counted : RisesAtMost before after (parts_cost shares source ranges)
  pub copied : IfOk result (λ count. RisesAtLeast before after (parts_count shares source (take count new)))

-- a draw of one part: at the range that this end draws of the ranges that were left, within that part's cost, and counted
abbrev pub DrawsPart : {E : Type 0} → Bool → End → Left → Option (Result Handle E) → Left → ℕ → ℕ → Type 0
DrawsPart shares end old None new before after = (old.rest ≡ []) × (after ≡ before)
DrawsPart shares end old (Some part) new before after =
    (range : ℕ × ℕ) × ((script : List End) → draw old.rest (end ∷ script) ≡ range ∷ draw new.rest script)
    × CutAnswers old.source (slice_range old.source.items range.0 range.1) part
    × RisesAtMost before after (part_cost shares old.source range)
    × IfOk part (λ handle. PartCounts shares old.source handle before after)

-- these slots put one after another from a position on
abbrev pub put_all : List SlotState → ℕ → List SlotState → List SlotState
put_all slots first [] = slots
put_all slots first (slot ∷ more) = put_all (slice_set slots first slot) (first + 1) more
