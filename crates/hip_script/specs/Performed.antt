-- Single steps of playing. Only private functions cite these.
use Rattle.std.specs.Prelude.{◌≡◌, ℕ, ◌^◌, ◌<◌, ◌⊎◌, Bool, List, [], ◌∷◌, ◌++◌, Option, Result, Ok, Err}
use Rattle.std.specs.Io.KnownBytes.{Appends}
use Rattle.hipstr.specs.Meter.{RisesAtLeast, RisesAtMost}
use Rattle.hipstr.specs.Run.{Run}
use Rattle.hipstr.specs.Slot.{SlotState}
use Rattle.hipstr.specs.declared.command.Answer.{Answer}
use Rattle.hipstr.specs.declared.command.Command.{Command}
use Rattle.hip_script.specs.Played.{FieldsText, fields_cost, printed_show}
use Rattle.hip_script.specs.Printed.{printed_answers, printed_number}
use Rattle.hip_script.specs.Prints.{AppendsFront, Prints}
use Rattle.hip_script.specs.declared.fault.WriteFailed.{WriteFailed}
use Rattle.hip_script.specs.declared.line.Aside.{Aside}
use Rattle.hip_script.specs.declared.line.Aside.TheVariants.{Show, Copied, Fields as FieldsOf}
use Rattle.hip_script.specs.declared.line.Line.{Line}
use Rattle.hip_script.specs.declared.line.Line.TheVariants.{Command as CommandLine, Aside as AsideLine}

-- the bytes that were written are the printed answers of some run
pub record Performs (shares : Bool) (old : List SlotState) (commands : List Command) (new : List SlotState) (counted counts : ℕ) (before after : Option (List ℕ)) : Type 0 where
  pub answers : List Answer
  pub least : ℕ
  pub most : ℕ
  pub run : Run shares old commands answers new least most
  pub copied : RisesAtLeast counted counts least
  pub rises : RisesAtMost counted counts most
  pub written : Appends before after (printed_answers answers)

-- the bytes that were written are a front of the printed answers of some run
pub record CutsRun (shares : Bool) (old : List SlotState) (commands : List Command) (before after : Option (List ℕ)) : Type 0 where
  pub answers : List Answer
  pub new : List SlotState
  pub least : ℕ
  pub most : ℕ
  pub run : Run shares old commands answers new least most
  pub written : AppendsFront before after (printed_answers answers)

-- the text of a line that is no command, for which the meter goes from one number to another
abbrev pub AsideText : Bool → List SlotState → Aside → ℕ → ℕ → List ℕ → Type 0
AsideText shares slots (Show s) counted counts text = (text ≡ printed_show slots s) × (counts ≡ counted)
AsideText shares slots Copied counted counts text = (text ≡ printed_number counted) × (counts ≡ counted) × (counted < 2 ^ 128)
AsideText shares slots (FieldsOf s separator) counted counts text =
    FieldsText slots s separator text × RisesAtMost counted counts (fields_cost shares slots s separator)

-- that text was written, or a front of it where a write failed
pub record Tells {E : Type 0} (shares : Bool) (slots : List SlotState) (aside : Aside) (counted counts : ℕ) (before after : Option (List ℕ)) (result : Result (Unit {0}) E) : Type 0 where
  pub text : List ℕ
  pub tells : AsideText shares slots aside counted counts text
  pub written : Prints before after text result

-- where the machine stands: its slots, its meter, and what was written
pub record Place : Type 0 where
  pub slots : List SlotState
  pub counted : ℕ
  pub written : Option (List ℕ)

abbrev pub PerformsAt : Bool → List Command → Place → Place → Type 0
PerformsAt shares commands old new = Performs shares old.slots commands new.slots old.counted new.counted old.written new.written

abbrev pub told : Result (Unit {0}) WriteFailed
told = Ok tt

-- a command waits with those before it; and what is none is told after they are performed
abbrev pub PlaysLine : Bool → Line → List Command → List Command → Place → Place → Type 0
PlaysLine shares (CommandLine command) waiting left old new = (left ≡ waiting ++ command ∷ []) × (new ≡ old)
PlaysLine shares (AsideLine aside) waiting left old new =
    (left ≡ []) × (ran : Place) × PerformsAt shares waiting old ran × (new.slots ≡ ran.slots)
    × Tells shares ran.slots aside ran.counted new.counted ran.written new.written told

-- a write failed while those that waited were performed, or while the line was told after them
abbrev pub CutsLine : Bool → Line → List Command → Place → Option (List ℕ) → Type 0
CutsLine shares (CommandLine command) waiting old after = ⊥
CutsLine shares (AsideLine aside) waiting old after =
    CutsRun shares old.slots waiting old.written after
    ⊎ ((ran : Place) × (counts : ℕ) × (failed : WriteFailed) × PerformsAt shares waiting old ran × Tells shares ran.slots aside ran.counted counts ran.written after (Err failed))
