-- The answers of calls that change a text, where they aren't those of the bytes' calls.
use Rattle.std.specs.Prelude.{◌≡◌, ℕ, ◌-◌, [], ◌++◌, length, Option, Some, None}
use Rattle.std.specs.Char.{encode_utf8}
use Rattle.hip_bytes.specs.Handle.{Handle}
use Rattle.hip_bytes.specs.Change.{IsShortened}

-- the last character is taken off, where there is one (Rust's `String::pop`)
abbrev pub PopCharAnswers : Handle → Option ℕ → Handle → Type 0
PopCharAnswers old (Some c) new = (old.items ≡ new.items ++ encode_utf8 c) × IsShortened old new (length old.items - length (encode_utf8 c))
PopCharAnswers old None new = (old.items ≡ []) × (new ≡ old)
