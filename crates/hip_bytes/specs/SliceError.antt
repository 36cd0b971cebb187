-- Why a range wasn't sliced: the parts of the error, and its text.
use Rattle.std.specs.Prelude.{◌≡◌, ℕ, ◌-◌, ◌^◌, List, ◌++◌, codes, min, refl}
use Rattle.std.specs.Fmt.{decimal}
use Rattle.hip_bytes.specs.Handle.{Handle}
use Rattle.hip_bytes.specs.declared.slice_error.SliceErrorKind.{SliceErrorKind}
use Rattle.hip_bytes.specs.declared.slice_error.SliceErrorKind.TheVariants.{StartGreaterThanEnd, StartOutOfBounds, EndOutOfBounds}
use Rattle.hip_bytes.specs.declared.slice_error.SliceError.{SliceError}

-- which test failed, the range's start and end, and the value that was to be sliced
abbrev pub error_kind : {B S P : Type 0} → SliceError B S P → SliceErrorKind
error_kind error = error.kind

abbrev pub error_start : {B S P : Type 0} → SliceError B S P → ℕ
error_start error = error.start

abbrev pub error_end : {B S P : Type 0} → SliceError B S P → ℕ
error_end error = error.end

abbrev pub error_source : {B S P : Type 0} → SliceError B S P → Handle
error_source error = error.source.now

-- a number as an error keeps it: one past the greatest `usize` becomes that
abbrev pub kept_number : ℕ → ℕ
kept_number n = min n (2 ^ 64 - 1)

-- the message of the error, for a list of `len` items
abbrev pub slice_error_text : SliceErrorKind → ℕ → ℕ → ℕ → List ℕ
slice_error_text StartGreaterThanEnd start end len = codes "range starts at " ++ (decimal start ++ (codes " but ends at " ++ decimal end))
slice_error_text StartOutOfBounds start end len = codes "range start index " ++ (decimal start ++ (codes " out of bounds for slice of length " ++ decimal len))
slice_error_text EndOutOfBounds start end len = codes "range end index " ++ (decimal end ++ (codes " out of bounds for slice of length " ++ decimal len))

pub greatest_number : kept_number (2 ^ 64) ≡ 18446744073709551615
greatest_number = refl
