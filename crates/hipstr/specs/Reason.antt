-- The reasons that the faults of calls are told as.
use Rattle.std.specs.Prelude.{Result, Ok, Err}
use Rattle.hip_bytes.specs.SliceError.{error_kind as bytes_error_kind}
use Rattle.hip_bytes.specs.declared.grow_fault.GrowFault.{GrowFault}
use Rattle.hip_bytes.specs.declared.grow_fault.GrowFault.TheVariants.{Memory as grow_memory, TooLong as grow_too_long}
use Rattle.hip_bytes.specs.declared.slice_error.SliceErrorKind.{SliceErrorKind}
use Rattle.hip_bytes.specs.declared.slice_error.SliceErrorKind.TheVariants.{StartGreaterThanEnd as start_greater, StartOutOfBounds as start_out, EndOutOfBounds as end_out}
use Rattle.hip_bytes.specs.declared.slice_error.SliceRefusal.{SliceRefusal}
use Rattle.hip_bytes.specs.declared.slice_error.SliceRefusal.TheVariants.{Slice as bytes_slice, Memory as bytes_memory}
use Rattle.hip_text.specs.SliceError.{error_kind as text_error_kind}
use Rattle.hip_text.specs.declared.slice_error.SliceErrorKind.{SliceErrorKind as TextErrorKind}
use Rattle.hip_text.specs.declared.slice_error.SliceErrorKind.TheVariants.{StartGreaterThanEnd as text_start_greater, StartOutOfBounds as text_start_out, EndOutOfBounds as text_end_out, StartNotACharBoundary as text_start_within, EndNotACharBoundary as text_end_within}
use Rattle.hip_text.specs.declared.slice_error.SliceRefusal.{SliceRefusal as TextRefusal}
use Rattle.hip_text.specs.declared.slice_error.SliceRefusal.TheVariants.{Slice as text_slice, Memory as text_memory}
use Rattle.hipstr.specs.declared.command.Answer.{Answer}
use Rattle.hipstr.specs.declared.command.Answer.TheVariants.{Refused}
use Rattle.hipstr.specs.declared.command.Reason.{Reason}
use Rattle.hipstr.specs.declared.command.Reason.TheVariants.{TooLong, StartGreaterThanEnd, StartOutOfBounds, EndOutOfBounds, StartNotACharBoundary, EndNotACharBoundary, Memory}

-- a range's fault
abbrev pub reason_of : SliceErrorKind → Reason
reason_of start_greater = StartGreaterThanEnd
reason_of start_out = StartOutOfBounds
reason_of end_out = EndOutOfBounds

abbrev pub text_reason_of : TextErrorKind → Reason
text_reason_of text_start_greater = StartGreaterThanEnd
text_reason_of text_start_out = StartOutOfBounds
text_reason_of text_end_out = EndOutOfBounds
text_reason_of text_start_within = StartNotACharBoundary
text_reason_of text_end_within = EndNotACharBoundary

-- why there is no slice
abbrev pub bytes_refusal : {B S P : Type 0} → SliceRefusal B S P → Reason
bytes_refusal (bytes_slice error) = reason_of (bytes_error_kind error)
bytes_refusal bytes_memory = Memory

abbrev pub text_refusal : {B S P : Type 0} → TextRefusal B S P → Reason
text_refusal (text_slice error) = text_reason_of (text_error_kind error)
text_refusal text_memory = Memory

-- why a list wasn't made of others
abbrev pub grow_reason_of : GrowFault → Reason
grow_reason_of grow_too_long = TooLong
grow_reason_of grow_memory = Memory

-- the answer of a command that was performed, or was refused for a reason
abbrev pub answer_of : Result Answer Reason → Answer
answer_of (Ok answer) = answer
answer_of (Err reason) = Refused reason
