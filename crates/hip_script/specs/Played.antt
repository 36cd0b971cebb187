-- The playing of a script: the promise of `play_to`. `shares` says whether owners are shared.
use Rattle.std.specs.Prelude.{◌≡◌, ℕ, ◌+◌, ◌^◌, ◌<◌, ◌≤◌, ◌⊎◌, nat_lt, Bool, List, [], ◌∷◌, ◌++◌, length, replicate, Option, Result, Ok, Err, MatchOption, codes, if◌then◌else◌}
use Rattle.std.specs.Io.KnownBytes.{Appends, Keeps}
use Rattle.std.specs.Option.{option_or}
use Rattle.hip_fields.specs.Records.{records_cost, records_of}
use Rattle.hipstr.specs.Meter.{RisesAtLeast}
use Rattle.hipstr.specs.Runs.{lines}
use Rattle.hipstr.specs.Slot.{SlotState, empty_slot, slot_at, state_at, text_at}
use Rattle.hipstr.specs.Step.{Costs, Step, counts_of, not_text_fault, slot_fault, unless}
use Rattle.hipstr.specs.declared.command.Answer.{Answer}
use Rattle.hipstr.specs.declared.command.Answer.TheVariants.{Refused}
use Rattle.hipstr.specs.declared.command.Command.{Command}
use Rattle.hipstr.specs.declared.command.Reason.{Reason}
use Rattle.hipstr.specs.declared.command.Reason.TheVariants.{Memory as no_memory}
use Rattle.hip_script.specs.Prints.{AppendsFront}
use Rattle.hip_script.specs.Printed.{printed_answer, printed_number, printed_records, printed_slot}
use Rattle.hip_script.specs.Spoken.{Spoken}
use Rattle.hip_script.specs.Spoken.Spoken.{SayShow, SayCopied, SayFields}
use Rattle.hip_script.specs.Told.{says}
use Rattle.hip_script.specs.declared.fault.PlayFault.{PlayFault}
use Rattle.hip_script.specs.declared.fault.PlayFault.TheVariants.{NotACommand, ReadFailed, WriteFailed, Memory}

-- the slots between two lines, and how many bytes were counted at least and at most
pub record State : Type 0 where
  pub slots : List SlotState
  pub least : ℕ
  pub most : ℕ

-- sixteen slots that hold nothing, and nothing was copied
abbrev pub at_start : State
at_start = record { slots = replicate 16 empty_slot; least = 0; most = 0 }

-- a command's answer, where it costs so much
pub record Answers (shares : Bool) (old : State) (line : Spoken) (text : List ℕ) (new : State) : Type 0 where
  pub command : Command
  pub answer : Answer
  pub cost : ℕ
  pub is : says command ≡ line
  pub step : Step shares old.slots command answer new.slots
  pub costs : Costs shares old.slots command cost
  pub least : new.least ≡ old.least + counts_of shares old.slots command answer new.slots
  pub most : new.most ≡ old.most + cost
  pub printed : text ≡ printed_answer answer

-- a slot, if it is there
abbrev pub printed_show : List SlotState → ℕ → List ℕ
printed_show slots s =
    if nat_lt s (length slots) then printed_slot (text_at slots s) (slot_at slots s).items else codes "refused NoSlot\n"

-- why a slot has no records
abbrev pub fields_fault : List SlotState → ℕ → Option Reason
fields_fault slots s = option_or (slot_fault slots s) (not_text_fault (state_at slots s))

-- the records of a slot's text, or why there are none. A text that has a line may need memory
abbrev pub RecordsText : List SlotState → ℕ → ℕ → List ℕ → Type 0
RecordsText slots s separator text =
    (text ≡ printed_records (records_of separator (slot_at slots s).items))
    ⊎ ((lines (slot_at slots s).items ≡ [] → ⊥) × (text ≡ printed_answer (Refused no_memory)))

abbrev pub FieldsText : List SlotState → ℕ → ℕ → List ℕ → Type 0
FieldsText slots s separator text =
    MatchOption (fields_fault slots s) (RecordsText slots s separator text) (λ reason. text ≡ printed_answer (Refused reason))

-- the greatest number of bytes that the records of a slot's text copy
abbrev pub fields_cost : Bool → List SlotState → ℕ → ℕ → ℕ
fields_cost shares slots s separator =
    unless (fields_fault slots s) (records_cost shares (slot_at slots s).kind (records_of separator (slot_at slots s).items))

-- the text that may be written for a line, and the state behind it: a slot, a number that the meter may have, records, or a command's
-- answer
abbrev pub Writes : Bool → State → Spoken → List ℕ → State → Type 0
Writes shares old (SayShow s) text new = (text ≡ printed_show old.slots s) × (new ≡ old)
Writes shares old SayCopied text new =
    (n : ℕ) × RisesAtLeast 0 n old.least × (n ≤ old.most) × (n < 2 ^ 128) × (text ≡ printed_number n) × (new ≡ record { slots = old.slots; least = n; most = n })
Writes shares old (SayFields s separator) text new =
    FieldsText old.slots s separator text
    × (new ≡ record { slots = old.slots; least = old.least; most = old.most + fields_cost shares old.slots s separator })
Writes shares old line text new = Answers shares old line text new

-- the text that may be written for some lines, one after another, and the state behind them
abbrev pub WritesAll : Bool → State → List Spoken → List ℕ → State → Type 0
WritesAll shares old [] text new = (text ≡ []) × (new ≡ old)
WritesAll shares old (line ∷ lines) text new =
    (between : State) × (first rest : List ℕ) × Writes shares old line first between × WritesAll shares between lines rest new × (text ≡ first ++ rest)

-- the bytes that were written may be written for the script
pub record IsPlayed (shares : Bool) (script : List Spoken) (old new : Option (List ℕ)) : Type 0 where
  pub text : List ℕ
  pub state : State
  pub writes : WritesAll shares at_start script text state
  pub written : Appends old new text

-- lines that end where a list of commands does: there are none, or the last is no command
abbrev pub IsAside : Spoken → Type 0
IsAside (SayShow s) = Unit {0}
IsAside SayCopied = Unit {0}
IsAside (SayFields s separator) = Unit {0}
IsAside line = ⊥

abbrev pub EndsList : List Spoken → Type 0
EndsList lines = (lines ≡ []) ⊎ ((front : List Spoken) × (last : Spoken) × (lines ≡ front ++ last ∷ []) × IsAside last)

-- the bytes that were written may be written for the script's first lines, to the end of a list of commands: no answer of a list goes out
-- where its run was refused
pub record IsPlayedInPart (shares : Bool) (script : List Spoken) (old new : Option (List ℕ)) : Type 0 where
  pub front : List Spoken
  pub later : List Spoken
  pub all : front ++ later ≡ script
  pub ends : EndsList front
  pub played : IsPlayed shares front old new

-- a front of the bytes that may be written for the script's first lines was written
pub record IsCutShort (shares : Bool) (script : List Spoken) (old new : Option (List ℕ)) : Type 0 where
  pub front : List Spoken
  pub later : List Spoken
  pub all : front ++ later ≡ script
  pub text : List ℕ
  pub state : State
  pub writes : WritesAll shares at_start front text state
  pub written : AppendsFront old new text

-- which scripts are read: a line that is none is told by its number, and no other script is refused
abbrev pub Reads : Result (List Spoken) ℕ → Result (Unit {0}) PlayFault → Type 0
Reads said (Ok done) = (script : List Spoken) × (said ≡ Ok script)
Reads said (Err (NotACommand line)) = said ≡ Err line
Reads said (Err WriteFailed) = (script : List Spoken) × (said ≡ Ok script)
Reads said (Err ReadFailed) = Unit {0}
Reads said (Err Memory) = Unit {0}

-- the bytes that were written: none for a script with a line that is none; where memory was refused, those of its first lines; where a
-- write failed, a front of these
abbrev pub Written : Bool → Result (List Spoken) ℕ → Option (List ℕ) → Option (List ℕ) → Result (Unit {0}) PlayFault → Type 0
Written shares said old new (Ok done) = (script : List Spoken) × (said ≡ Ok script) × IsPlayed shares script old new
Written shares said old new (Err (NotACommand line)) = Keeps old new
Written shares said old new (Err ReadFailed) = Keeps old new
Written shares said old new (Err WriteFailed) = (script : List Spoken) × (said ≡ Ok script) × IsCutShort shares script old new
Written shares said old new (Err Memory) = Keeps old new ⊎ ((script : List Spoken) × (said ≡ Ok script) × IsPlayedInPart shares script old new)
