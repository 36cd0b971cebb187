-- The answers of calls that read an OS string as a text (UTF-8; Rust's `OsStr::to_str`, `OsString::into_string`).
use Rattle.std.specs.Prelude.{◌≡◌, Option, Some, None, Result, Ok, Err, IsUtf8}
use Rattle.hip_bytes.specs.Handle.{Handle}
use Rattle.hip_bytes.specs.Kinds.{Holds}
use Rattle.hip_bytes.specs.declared.kind.Kind.TheVariants.{Allocated}

-- bytes that are UTF-8 become the text, in the same handle; any others are handed back
abbrev pub IntoStrAnswers : Handle → Result Handle Handle → Type 0
IntoStrAnswers source (Ok text) = (text ≡ source) × IsUtf8 source.items
IntoStrAnswers source (Err back) = (back ≡ source) × ¬ (IsUtf8 source.items)

-- bytes that are UTF-8 are cloned as a text
abbrev pub ToStrAnswers : {E : Type 0} → Handle → Result (Option Handle) E → Type 0
ToStrAnswers source (Ok (Some text)) = Holds text source.kind source.items × IsUtf8 source.items
ToStrAnswers source (Ok None) = ¬ (IsUtf8 source.items)
ToStrAnswers source (Err error) = (source.kind ≡ Allocated) × IsUtf8 source.items
