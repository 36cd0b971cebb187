-- What a tool writes of a text that it reads, and what it tells where it writes nothing.
use Rattle.std.specs.Prelude.{◌≡◌, ◌==◌, ℕ, ◌+◌, List, [], ◌∷◌, ◌++◌, take, Option, Result, Ok, Err, IsUtf8}
use Rattle.std.specs.Io.KnownBytes.{Appends, Keeps}
use Rattle.std.specs.List.{count_by}
use Rattle.std.specs.Str.{IsValidUpTo}
use Rattle.hip_uses.specs.declared.fault.InternFault.{InternFault}
use Rattle.hip_uses.specs.declared.fault.InternFault.TheVariants.{TooMany, Memory as no_room}
use Rattle.hip_uses.specs.declared.fault.TableFault.{TableFault}
use Rattle.hip_uses.specs.declared.fault.TableFault.TheVariants.{Memory as no_memory}
use Rattle.hip_uses.specs.declared.fault.ToolFault.{ToolFault}
use Rattle.hip_uses.specs.declared.fault.ToolFault.TheVariants.{ReadFailed, WriteFailed, Memory, NotUtf8, Table, TooManyWords}

-- the fault of a table as the tool's
abbrev pub of_table : TableFault → ToolFault
of_table no_memory = Memory
of_table fault = Table fault

-- the fault of an interner as the tool's
abbrev pub of_intern : InternFault → ToolFault
of_intern TooMany = TooManyWords
of_intern no_room = Memory

-- which line the byte at a place of a text is on, counted from 1: one more than the line feeds (10) before it
abbrev pub line_at : List ℕ → ℕ → ℕ
line_at text place = count_by (λ byte. byte == 10) (take place text) + 1

-- a text as a line of its own
abbrev pub as_line : List ℕ → List ℕ
as_line text = text ++ (10 ∷ [])

-- what was written is a text of which P holds
abbrev pub Writes : (List ℕ → Type 0) → Option (List ℕ) → Option (List ℕ) → Type 0
Writes P old new = (text : List ℕ) × P text × Appends old new text

-- nothing was written, unless a write failed
abbrev pub WritesNothing : ToolFault → Option (List ℕ) → Option (List ℕ) → Type 0
WritesNothing WriteFailed old new = Unit {0}
WritesNothing fault old new = Keeps old new

-- the line of the first byte that is at fault in bytes that aren't UTF-8
abbrev pub IsNotUtf8At : List ℕ → ℕ → Type 0
IsNotUtf8At input line = (place : ℕ) × IsValidUpTo input place × ¬ (IsUtf8 input) × (line ≡ line_at input place)

-- the fault of an input: it isn't UTF-8, or it is, and has a fault that is the tool's own
abbrev pub InputFails : (ToolFault → Type 0) → List ℕ → ToolFault → Type 0
InputFails Own input ReadFailed = Unit {0}
InputFails Own input WriteFailed = Unit {0}
InputFails Own input Memory = Unit {0}
InputFails Own input (NotUtf8 line) = IsNotUtf8At input line
InputFails Own input fault = IsUtf8 input × Own fault

-- the input is a text, or the fault is told that it has
abbrev pub Tells : {T : Type 0} → (ToolFault → Type 0) → List ℕ → Result T ToolFault → Type 0
Tells Own input (Ok done) = IsUtf8 input
Tells Own input (Err fault) = InputFails Own input fault

-- no fault is the tool's own
abbrev pub NoFault : ToolFault → Type 0
NoFault fault = ⊥

-- the bytes that were read as a text, or the fault that they have
abbrev pub ReadsText : {T : Type 0} → (T → List ℕ) → List ℕ → Result T ToolFault → Type 0
ReadsText bytes input (Ok text) = IsUtf8 input × (bytes text ≡ input)
ReadsText bytes input (Err fault) = InputFails NoFault input fault
