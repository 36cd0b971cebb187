-- The amortised cost of a run where owners aren't shared, by the potential method: what growth copies was paid for by the pushes
-- before it, so a push onto an allocated slot costs three times its addition, whatever the slot holds.
use Rattle.std.specs.Prelude.{◌≡◌, ℕ, ◌+◌, ◌-◌, ◌*◌, ◌≤◌, Bool, false, List, [], ◌∷◌, length, replicate, Option, Some, None, MatchOption, refl}
use Rattle.hip_bytes.specs.Cost.{handle_pot}
use Rattle.hip_bytes.specs.declared.kind.Kind.{Kind}
use Rattle.hip_bytes.specs.declared.kind.Kind.TheVariants.{Inline, Borrowed, Allocated}
use Rattle.hipstr.specs.Slot.{SlotState, empty_slot, slot_at}
use Rattle.hipstr.specs.Step.{Step, Costs}
use Rattle.hipstr.specs.declared.command.Command.{Command}
use Rattle.hipstr.specs.declared.command.Command.TheVariants.{Push}
use Rattle.hipstr.specs.declared.command.Answer.{Answer}

-- the pots of all slots
abbrev pub pots : List SlotState → ℕ
pots [] = 0
pots (slot ∷ slots) = handle_pot slot.handle + pots slots

-- by how much the pots rise, slot by slot; a slot whose pot falls doesn't count
abbrev pub rises : List SlotState → List SlotState → ℕ
rises old [] = 0
rises [] (after ∷ new) = handle_pot after.handle + rises [] new
rises (before ∷ old) (after ∷ new) = (handle_pot after.handle - handle_pot before.handle) + rises old new

-- the number of bytes that a push adds to an allocated slot; `None` for any other command
abbrev pub added_to : Kind → ℕ → Option ℕ
added_to Inline added = None
added_to Borrowed added = None
added_to Allocated added = Some added

abbrev pub pushed_onto_owner : List SlotState → Command → Option ℕ
pushed_onto_owner slots (Push t bytes) = added_to (slot_at slots t).kind (length bytes.now)
pushed_onto_owner slots command = None

-- a push onto an allocated slot, for which the meter goes from `before` to `after`: what it copies, and the pots that it leaves, are paid
-- by the pots that there were and three times the addition
abbrev pub PushesArePaid : Bool → List SlotState → Command → List SlotState → ℕ → ℕ → Type 0
PushesArePaid shares old command new before after =
    shares ≡ false → MatchOption (pushed_onto_owner old command) (Unit {0}) (λ added. after + pots new ≤ before + pots old + 3 * added)

-- a step's addition to the amortised cost: such a push three times the bytes that it adds, any other command its cost and what the pots
-- rise by
abbrev pub CostsAmortised : Bool → List SlotState → Command → List SlotState → ℕ → Type 0
CostsAmortised shares old command new amortised =
    MatchOption (pushed_onto_owner old command) ((cost : ℕ) × Costs shares old command cost × (amortised ≡ cost + rises old new)) (λ added. amortised ≡ 3 * added)

-- the machine may give these answers to these commands, and go on from the old slots to the new; `total` is the sum of what the steps
-- add to the amortised cost
abbrev pub RunAmortised : Bool → List SlotState → List Command → List Answer → List SlotState → ℕ → Type 0
RunAmortised shares old [] [] new total = (new ≡ old) × (total ≡ 0)
RunAmortised shares old (command ∷ commands) (answer ∷ answers) new total =
    (between : List SlotState) × (amortised rest : ℕ) × Step shares old command answer between × CostsAmortised shares old command between amortised
    × RunAmortised shares between commands answers new rest × (total ≡ amortised + rest)
RunAmortised shares old [] (answer ∷ answers) new total = ⊥
RunAmortised shares old (command ∷ commands) [] new total = ⊥

-- 60 bytes of 64 have a pot of 56, and an empty slot has none; four bytes more raise it by 8
abbrev allocated_slot : ℕ → SlotState
allocated_slot len = record { is_text = false; handle = record { kind = Allocated; items = replicate len 0; capacity = 64 } }

pub pots-example : (pots (allocated_slot 60 ∷ empty_slot ∷ []) ≡ 56) × (rises (allocated_slot 60 ∷ []) (allocated_slot 64 ∷ []) ≡ 8)
pots-example = (refl, refl)
