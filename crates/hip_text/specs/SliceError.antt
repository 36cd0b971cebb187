-- Why a range of a text wasn't sliced: the parts of the error, and its text.
use Rattle.std.specs.Prelude.{ℕ, List, ◌++◌, codes}
use Rattle.std.specs.Fmt.{decimal}
use Rattle.hip_bytes.specs.Handle.{Handle}
use Rattle.hip_text.specs.declared.slice_error.SliceErrorKind.{SliceErrorKind}
use Rattle.hip_text.specs.declared.slice_error.SliceErrorKind.TheVariants.{StartGreaterThanEnd, StartOutOfBounds, EndOutOfBounds, StartNotACharBoundary, EndNotACharBoundary}
use Rattle.hip_text.specs.declared.slice_error.SliceError.{SliceError}

-- which test failed, the range's start and end, and the text that was to be sliced
abbrev pub error_kind : {B S P : Type 0} → SliceError B S P → SliceErrorKind
error_kind error = error.kind

abbrev pub error_start : {B S P : Type 0} → SliceError B S P → ℕ
error_start error = error.start

abbrev pub error_end : {B S P : Type 0} → SliceError B S P → ℕ
error_end error = error.end

abbrev pub error_source : {B S P : Type 0} → SliceError B S P → Handle
error_source error = error.source.now

-- the message of the error, for a text; it ends with the backquote
abbrev pub slice_error_text : SliceErrorKind → ℕ → ℕ → List ℕ → List ℕ
slice_error_text StartGreaterThanEnd start end text =
    codes "range starts at " ++ (decimal start ++ (codes " but ends at " ++ (decimal end ++ (codes " when slicing `" ++ (text ++ codes "`")))))
slice_error_text StartOutOfBounds start end text =
    codes "range start index " ++ (decimal start ++ (codes " is out of bounds of `" ++ (text ++ codes "`")))
slice_error_text EndOutOfBounds start end text =
    codes "range end index " ++ (decimal end ++ (codes " is out of bounds of `" ++ (text ++ codes "`")))
slice_error_text StartNotACharBoundary start end text =
    codes "range start index " ++ (decimal start ++ (codes " is not a char boundary of `" ++ (text ++ codes "`")))
slice_error_text EndNotACharBoundary start end text =
    codes "range end index " ++ (decimal end ++ (codes " is not a char boundary of `" ++ (text ++ codes "`")))
