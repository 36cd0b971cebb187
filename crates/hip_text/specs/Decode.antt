-- The answers of calls that read bytes as a text (UTF-8; Rust's `str::from_utf8`).
use Rattle.std.specs.Prelude.{◌≡◌, ◌<◌, ℕ, List, drop, length, Result, Ok, Err, IsUtf8}
use Rattle.std.specs.Str.{error_len, valid_up_to, IsValidUpTo}
use Rattle.std.specs.Str.Lossy.{utf8_error_len}
use Rattle.std.specs.declared.str.Utf8Error.{Utf8Error}
use Rattle.hip_bytes.specs.Handle.{Handle}
use Rattle.hip_bytes.specs.Kinds.{Holds, HoldsByLength}
use Rattle.hip_bytes.specs.declared.kind.Kind.TheVariants.{Allocated}
use Rattle.hip_bytes.specs.declared.kind.TheConstants.{INLINE_CAPACITY}
use Rattle.hip_text.specs.declared.faults.BytesFault.{BytesFault}
use Rattle.hip_text.specs.declared.faults.BytesFault.TheVariants.{Memory, NotUtf8}

-- the error as contracts see it: the bytes that it keeps, and what is wrong with them
pub record Utf8Failure : Type 0 where
  pub bytes : Handle
  pub cause : Utf8Error

-- the library's account of bytes that aren't UTF-8: the length of their longest front that is, and the number of bytes behind it that are
-- at fault, or `None` where the bytes end within a character
pub record IsCauseOf (bytes : List ℕ) (cause : Utf8Error) : Type 0 where
  pub longest : IsValidUpTo bytes (valid_up_to cause)
  pub at_fault : error_len cause ≡ utf8_error_len (drop (valid_up_to cause) bytes)

-- bytes that are UTF-8 become the text, in the same handle; any others are kept by the error, which tells what is wrong with them
abbrev pub FromUtf8Answers : Handle → Result Handle Utf8Failure → Type 0
FromUtf8Answers bytes (Ok text) = (text ≡ bytes) × IsUtf8 bytes.items
FromUtf8Answers bytes (Err error) = (error.bytes ≡ bytes) × ¬ (IsUtf8 bytes.items) × IsCauseOf bytes.items error.cause

-- a copy of the error, with a clone of its bytes
abbrev pub CloneErrorAnswers : {E : Type 0} → Utf8Failure → Result Utf8Failure E → Type 0
CloneErrorAnswers error (Ok copy) = Holds copy.bytes error.bytes.kind error.bytes.items × (copy.cause ≡ error.cause)
CloneErrorAnswers error (Err refused) = error.bytes.kind ≡ Allocated

-- bytes that are UTF-8 are made a text, by length, or memory for them was refused
abbrev pub ReadAnswers : List ℕ → Result Handle BytesFault → Type 0
ReadAnswers bytes (Ok text) = IsUtf8 bytes × HoldsByLength text bytes
ReadAnswers bytes (Err NotUtf8) = ¬ (IsUtf8 bytes)
ReadAnswers bytes (Err Memory) = IsUtf8 bytes × (INLINE_CAPACITY < length bytes)

-- the fault alone, of a call that hands back what it was given
abbrev pub refusal_of : {T V : Type 0} → Result T (BytesFault × V) → Result T BytesFault
refusal_of (Ok text) = Ok text
refusal_of (Err refusal) = Err refusal.0
