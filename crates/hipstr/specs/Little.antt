-- Commands that make parts of a slot: where owners are shared they copy little, whatever the slot holds.
use Rattle.std.specs.Prelude.{ℕ, List, length, Option, Some, None, MatchOption}
use Rattle.hip_bytes.specs.Handle.{Handle}
use Rattle.hip_cuts.specs.Piece.{IsLittle}
use Rattle.hipstr.specs.Slot.{SlotState, slot_at}
use Rattle.hipstr.specs.Step.{drawn_of}
use Rattle.hipstr.specs.declared.command.Command.{Command}
use Rattle.hipstr.specs.declared.command.Command.TheVariants.{Clone, Slice, Trim, TrimMatches, Strip, Pieces, Once}

-- the handle that a command makes parts of, and the number of parts: a clone, a slice, a trim and a strip make one
abbrev pub parts_made : List SlotState → Command → Option (Handle × ℕ)
parts_made slots (Clone s t) = Some (slot_at slots s, 1)
parts_made slots (Slice s t low high) = Some (slot_at slots s, 1)
parts_made slots (Trim s t side) = Some (slot_at slots s, 1)
parts_made slots (TrimMatches s t side pattern) = Some (slot_at slots s, 1)
parts_made slots (Strip s t end pattern) = Some (slot_at slots s, 1)
parts_made slots (Once s t u end pattern) = Some (slot_at slots s, 2)
parts_made slots (Pieces s how script first) = Some (slot_at slots s, length (drawn_of slots s how script.now))
-- no other command makes parts
parts_made slots command = None

-- the parts that a command makes copy little
abbrev pub CopiesLittle : List SlotState → Command → ℕ → Type 0
CopiesLittle slots command cost = MatchOption (parts_made slots command) (Unit {0}) (λ made. IsLittle made.0 made.1 cost)
