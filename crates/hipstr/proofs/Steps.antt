-- Lemmas on single steps of the list machine.
use Rattle.std.proofs.Common.{◌≡◌, ◌∙◌, ℕ, suc, ◌+◌, ◌<◌, ◌≤◌, ◌⊎◌, inl, inr, arith, Bool, true, false, List, length, nat_le, slice_set, Option, Some, None, if◌then◌else◌, MatchOption, ap, refl, subst, sym}
use Rattle.std.proofs.{Math.Bool.and-false, lemmas.Bool.lt-ltb, lemmas.Bool.Decides.leb_tells, lemmas.List.get_or-set_same, lemmas.List.set-get_or}
use Rattle.std.specs.Prelude.{◌&&◌, nat_lt}
use Rattle.std.specs.Option.{option_or}
use Rattle.hip_bytes.specs.{Handle.Handle, Meter.RisesAtMost}
use Rattle.hipstr.specs.Slot.{Replaces, SlotState, empty_slot, state_at}
use Rattle.hipstr.specs.Step.{Performs, Step, fault_of, one_end_fault, overlap_fault, slot_fault, unless}
use Rattle.hipstr.specs.{declared.command.Command.Command, declared.command.Answer.Answer, declared.command.Answer.TheVariants.Refused, declared.command.Reason.Reason}
use Rattle.hipstr.specs.declared.command.Reason.TheVariants.{Memory, NoSlot, Overlap}

-- a command without a fault is performed
pub performed : (shares : Bool) (old : List SlotState) (command : Command) (answer : Answer) (new : List SlotState)
    → fault_of old command ≡ None → Performs shares old command answer new → Step shares old command answer new
performed shares old command answer new none done =
    subst (λ (fault : Option Reason). MatchOption fault (Performs shares old command answer new) (λ reason. (answer ≡ Refused reason) × (new ≡ old)))
    (sym none) done

-- the cost of a command without a fault
pub unfaulted : (fault : Option Reason) (m n cost : ℕ) → fault ≡ None → RisesAtMost m n cost → RisesAtMost m n (unless fault cost)
unfaulted fault m n cost none = subst (λ (fault : Option Reason). RisesAtMost m n (unless fault cost)) (sym none)

-- the first fault, and the second where there is no first
pub first-fault : (first second : Option Reason) (reason : Reason) → first ≡ Some reason → option_or first second ≡ Some reason
first-fault first second reason is = ap (λ (fault : Option Reason). option_or fault second) is

pub second-fault : (first second fault : Option Reason) → first ≡ None → second ≡ fault → option_or first second ≡ fault
second-fault first second fault none is = ap (λ (fault : Option Reason). option_or fault second) none ∙ is

-- no first fault and no second
pub neither : (first second : Option Reason) → first ≡ None → second ≡ None → option_or first second ≡ None
neither first second = second-fault first second None

-- no fault but the first
pub no-other : (first : Option Reason) → first ≡ option_or first None
no-other None = refl
no-other (Some reason) = refl

-- a fault more, behind three
pub more-faults : (first second third more : Option Reason) → option_or first (option_or second (option_or third more)) ≡ option_or (option_or first (option_or second third)) more
more-faults None None third more = refl
more-faults None (Some reason) third more = refl
more-faults (Some reason) second third more = refl

-- none of five faults
pub none-of-five : (first second third fourth fifth : Option Reason) → first ≡ None → second ≡ None → third ≡ None → fourth ≡ None → fifth ≡ None
    → option_or first (option_or second (option_or third (option_or fourth fifth))) ≡ None
none-of-five first second third fourth fifth none none_2 none_3 none_4 none_5 =
    neither first _ none (neither second _ none_2 (neither third _ none_3 (neither fourth fifth none_4 none_5)))

pub slot-there : (slots : List SlotState) (t : ℕ) → t < length slots → slot_fault slots t ≡ None
slot-there slots t within = ap (λ b. if b then None else Some NoSlot) (lt-ltb t (length slots) within)

-- a slot that isn't among others
pub outside : (s first count : ℕ) → (first ≤ s → s < first + count → ⊥) → overlap_fault s first count ≡ None
outside s first count never = ap (λ b. if b then Some Overlap else None) (by-order (leb_tells first s) (leb_tells (suc s) (first + count))) where
  by-order : ((nat_le first s ≡ true) × (first ≤ s)) ⊎ ((nat_le first s ≡ false) × (s < first)) → ((nat_lt s (first + count) ≡ true) × (s < first + count)) ⊎ ((nat_lt s (first + count) ≡ false) × (first + count < suc s))
      → (nat_le first s && nat_lt s (first + count)) ≡ false
  by-order (inl from) (inl before) = absurd (never from.1 before.1)
  by-order (inr not_from) before = ap (λ b. b && nat_lt s (first + count)) not_from.0
  by-order (inl from) (inr past) = ap (λ b. nat_le first s && b) past.0 ∙ and-false (nat_le first s)

-- two slots that are apart
pub apart : (t u : ℕ) → ¬ (t ≡ u) → overlap_fault t u 1 ≡ None
apart t u other = outside t u 1 (λ from before. other (omega (arith, from, before)))

-- two slots that are one overlap
pub overlaps : (t u : ℕ) → t ≡ u → overlap_fault t u 1 ≡ Some Overlap
overlaps t u is = ap (λ b. if b then Some Overlap else None) (by-order (leb_tells u t) (leb_tells (suc t) (u + 1))) where
  by-order : ((nat_le u t ≡ true) × (u ≤ t)) ⊎ ((nat_le u t ≡ false) × (t < u)) → ((nat_lt t (u + 1) ≡ true) × (t < u + 1)) ⊎ ((nat_lt t (u + 1) ≡ false) × (u + 1 < suc t)) → (nat_le u t && nat_lt t (u + 1)) ≡ true
  by-order (inl from) (inl before) = ap (λ b. b && nat_lt t (u + 1)) from.0 ∙ before.0
  by-order (inr above) before = absurd (omega (arith, is, above.1))
  by-order (inl from) (inr past) = absurd (omega (arith, is, past.1))

pub one-end : (is_asked : Bool) → is_asked ≡ false → one_end_fault is_asked ≡ None
one-end is_asked not = ap one_end_fault not

-- a command with a fault answers it
pub faulted : (shares : Bool) (old new : List SlotState) (command : Command) (reason : Reason) → fault_of old command ≡ Some reason → new ≡ old → Step shares old command (Refused reason) new
faulted shares old new command reason is same =
    subst (λ (fault : Option Reason). MatchOption fault (Performs shares old command (Refused reason) new) (λ first. (let answer : Answer = Refused reason in answer) ≡ Refused first × (new ≡ old)))
    (sym is) (refl, same)

-- a command that answers its fault
pub told-fault : (shares : Bool) (slots : List SlotState) (command : Command) (answer : Answer) (reason : Reason) → answer ≡ Refused reason → fault_of slots command ≡ Some reason → Step shares slots command answer slots
told-fault shares slots command answer reason told is = subst (λ (answer : Answer). Step shares slots command answer slots) (sym told) (faulted shares slots slots command reason is refl)

-- a command without a fault that was refused memory, and changed nothing
pub told-memory : (shares : Bool) (slots : List SlotState) (command : Command) (answer : Answer) → answer ≡ Refused Memory → fault_of slots command ≡ None → Performs shares slots command (Refused Memory) slots
    → Step shares slots command answer slots
told-memory shares slots command answer told none done = subst (λ (answer : Answer). Step shares slots command answer slots) (sym told) (performed shares slots command (Refused Memory) slots none done)

-- a slot that was put is replaced by one whose handle P holds of
pub replaced : (old new : List SlotState) (t : ℕ) (slot : SlotState) (is_text : Bool) (P : Handle → Type 0)
    → t < length old → new ≡ slice_set old t slot → slot.is_text ≡ is_text → P slot.handle → Replaces old new t is_text P
replaced old new t slot is_text P within put flag p =
    let there : state_at new t ≡ slot = ap (λ s. state_at s t) put ∙ get_or-set_same old t slot empty_slot within in
    record {
      target = subst (λ (state : SlotState). P state.handle) (sym there) p;
      flag = ap (λ (state : SlotState). state.is_text) there ∙ flag;
      others = put ∙ ap (λ s. slice_set old t s) (sym there);
    }

-- one that was put as it is
pub as-it-was : (old new : List SlotState) (t : ℕ) (slot : SlotState) → new ≡ slice_set old t slot → slot ≡ state_at old t → new ≡ old
as-it-was old new t slot put same = put ∙ ap (λ s. slice_set old t s) same ∙ set-get_or old t empty_slot
