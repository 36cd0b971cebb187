-- Runs of the list machine: one step after another, with their cost.
use Rattle.std.specs.Prelude.{◌≡◌, ℕ, ◌+◌, Bool, List, [], ◌∷◌}
use Rattle.hipstr.specs.Slot.{SlotState}
use Rattle.hipstr.specs.Step.{Step, Costs, counts_of}
use Rattle.hipstr.specs.declared.command.Command.{Command}
use Rattle.hipstr.specs.declared.command.Answer.{Answer}

-- the machine may give these answers to these commands, and go on from the old slots to the new; `most` is the sum of the costs of the
-- commands, each in the slots that it met, and `least` of the bytes that they count at least
abbrev pub Run : Bool → List SlotState → List Command → List Answer → List SlotState → ℕ → ℕ → Type 0
Run shares old [] [] new least most = (new ≡ old) × (least ≡ 0) × (most ≡ 0)
Run shares old (command ∷ commands) (answer ∷ answers) new least most =
    (between : List SlotState) × (cost less more : ℕ) × Step shares old command answer between × Costs shares old command cost
    × Run shares between commands answers new less more × (least ≡ counts_of shares old command answer between + less) × (most ≡ cost + more)
Run shares old [] (answer ∷ answers) new least most = ⊥
Run shares old (command ∷ commands) [] new least most = ⊥
