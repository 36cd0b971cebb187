-- The answers of calls that slice.
use Rattle.std.specs.Prelude.{◌≡◌, ℕ, length, Bool, Some, None, Result, Ok, Err, is_none, if◌then◌else◌}
use Rattle.std.specs.Range.Bound.{start_index, end_index}
use Rattle.std.specs.declared.ops.Bound.{Bound}
use Rattle.hip_bytes.specs.Handle.{Handle}
use Rattle.hip_bytes.specs.Cost.{CutNeedsMemory, cut_cost}
use Rattle.hip_bytes.specs.Made.{IsPart}
use Rattle.hip_bytes.specs.Range.{slice_fault, slice_of}
use Rattle.hip_bytes.specs.SliceError.{error_kind, error_start, error_end, error_source, kept_number}
use Rattle.hip_bytes.specs.declared.slice_error.SliceError.{SliceError}
use Rattle.hip_bytes.specs.declared.slice_error.SliceRefusal.{SliceRefusal}
use Rattle.hip_bytes.specs.declared.slice_error.SliceRefusal.TheVariants.{Slice, Memory}

-- the error says why these bounds are no range of the source
pub record IsErrorOf {B S P : Type 0} (error : SliceError B S P) (source : Handle) (low high : Bound ℕ) : Type 0 where
  pub fault : slice_fault low high (length source.items) ≡ Some (error_kind error)
  pub start : error_start error ≡ kept_number (start_index low)
  pub end : error_end error ≡ kept_number (end_index high (length source.items))
  pub source_is : error_source error ≡ source

-- a range of the source is answered by its part, or by a refusal where a part of that length may need memory; bounds that are no range of
-- the source are answered by their fault
abbrev pub SliceAnswers : {B S P : Type 0} → Handle → Bound ℕ → Bound ℕ → Result Handle (SliceRefusal B S P) → Type 0
SliceAnswers source low high (Ok part) =
    (slice_fault low high (length source.items) ≡ None) × IsPart source part (slice_of low high source.items)
SliceAnswers source low high (Err Memory) =
    (slice_fault low high (length source.items) ≡ None) × CutNeedsMemory source.kind (length (slice_of low high source.items))
SliceAnswers source low high (Err (Slice error)) = IsErrorOf error source low high

-- the greatest number of bytes that the call copies: none where the bounds are no range
abbrev pub slice_cost : Bool → Handle → Bound ℕ → Bound ℕ → ℕ
slice_cost shares source low high =
    if is_none (slice_fault low high (length source.items))
    then cut_cost shares source.kind (length (slice_of low high source.items))
    else 0
