-- Ranges of a text, and what a call that slices one may answer.
use Rattle.std.specs.Prelude.{◌≡◌, ℕ, List, [], ◌∷◌, length, Bool, Option, Some, None, Result, Ok, Err, is_none, if◌then◌else◌, refl}
use Rattle.std.specs.Range.Bound.{start_index, end_index}
use Rattle.std.specs.declared.ops.Bound.{Bound}
use Rattle.std.specs.declared.ops.Bound.TheVariants.{Included, Excluded, Unbounded}
use Rattle.hip_bytes.specs.Handle.{Handle}
use Rattle.hip_bytes.specs.Cost.{cut_cost, CutNeedsMemory}
use Rattle.hip_bytes.specs.Made.{IsPart}
use Rattle.hip_bytes.specs.Range.{slice_fault, slice_of}
use Rattle.hip_bytes.specs.SliceError.{kept_number}
use Rattle.hip_bytes.specs.declared.slice_error.SliceErrorKind.{SliceErrorKind as BytesKind}
use Rattle.hip_bytes.specs.declared.slice_error.SliceErrorKind.TheVariants.{StartGreaterThanEnd as start_greater, StartOutOfBounds as start_out, EndOutOfBounds as end_out}
use Rattle.hip_text.specs.Boundary.{is_boundary}
use Rattle.hip_text.specs.SliceError.{error_kind, error_start, error_end, error_source}
use Rattle.hip_text.specs.declared.slice_error.SliceErrorKind.{SliceErrorKind}
use Rattle.hip_text.specs.declared.slice_error.SliceErrorKind.TheVariants.{StartGreaterThanEnd, StartOutOfBounds, EndOutOfBounds, StartNotACharBoundary, EndNotACharBoundary}
use Rattle.hip_text.specs.declared.slice_error.SliceError.{SliceError}
use Rattle.hip_text.specs.declared.slice_error.SliceRefusal.{SliceRefusal}
use Rattle.hip_text.specs.declared.slice_error.SliceRefusal.TheVariants.{Slice, Memory}

-- a fault of a range of bytes as one of a text
abbrev pub as_text_fault : BytesKind → SliceErrorKind
as_text_fault start_greater = StartGreaterThanEnd
as_text_fault start_out = StartOutOfBounds
as_text_fault end_out = EndOutOfBounds

-- why the range that the bytes have is none of the text: its first end that lies within a character
abbrev pub boundary_fault : List ℕ → ℕ → ℕ → Option SliceErrorKind
boundary_fault text start end =
    if is_boundary text start then (if is_boundary text end then None else Some EndNotACharBoundary) else Some StartNotACharBoundary

-- why two bounds are no range of a text: the first test that fails, those of the bytes before those of the characters
abbrev pub text_fault_after : Option BytesKind → List ℕ → ℕ → ℕ → Option SliceErrorKind
text_fault_after (Some kind) text start end = Some (as_text_fault kind)
text_fault_after None text start end = boundary_fault text start end

abbrev pub text_slice_fault : Bound ℕ → Bound ℕ → List ℕ → Option SliceErrorKind
text_slice_fault low high text = text_fault_after (slice_fault low high (length text)) text (start_index low) (end_index high (length text))

-- the error says why these bounds are no range of the source
pub record IsErrorOf {B S P : Type 0} (error : SliceError B S P) (source : Handle) (low high : Bound ℕ) : Type 0 where
  pub fault : text_slice_fault low high source.items ≡ Some (error_kind error)
  pub start : error_start error ≡ kept_number (start_index low)
  pub end : error_end error ≡ kept_number (end_index high (length source.items))
  pub source_is : error_source error ≡ source

-- a range of the source is answered by its part, or by a refusal where a part of that length may need memory; bounds that are no range of
-- the source are answered by their fault
abbrev pub SliceAnswers : {B S P : Type 0} → Handle → Bound ℕ → Bound ℕ → Result Handle (SliceRefusal B S P) → Type 0
SliceAnswers source low high (Ok part) =
    (text_slice_fault low high source.items ≡ None) × IsPart source part (slice_of low high source.items)
SliceAnswers source low high (Err Memory) =
    (text_slice_fault low high source.items ≡ None) × CutNeedsMemory source.kind (length (slice_of low high source.items))
SliceAnswers source low high (Err (Slice error)) = IsErrorOf error source low high

-- the greatest number of bytes that the call copies: none where the bounds are no range
abbrev pub slice_cost : Bool → Handle → Bound ℕ → Bound ℕ → ℕ
slice_cost shares source low high =
    if is_none (text_slice_fault low high source.items)
    then cut_cost shares source.kind (length (slice_of low high source.items))
    else 0

-- `é` by `1..` and by `0..1`
pub start_within : text_slice_fault (Included 1) Unbounded (195 ∷ 169 ∷ []) ≡ Some StartNotACharBoundary
start_within = refl

pub end_within : text_slice_fault (Included 0) (Excluded 1) (195 ∷ 169 ∷ []) ≡ Some EndNotACharBoundary
end_within = refl
