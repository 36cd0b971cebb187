-- Lemmas on the joins of slots.
use Rattle.std.proofs.Common.{◌≡◌, ◌∙◌, ℕ, ◌+◌, ◌<◌, ◌≤◌, ◌^◌, ◌↔◌, ◌⊎◌, inl, inr, Bool, true, false, List, Option, Some, None, Result, Ok, Err, IfOk, length, map, take, drop, nat_le, slice_set, refl, ap, sym, subst, arith, rules}
use Rattle.std.proofs.lemmas.Bool.Decides.{leb_tells}
use Rattle.std.proofs.lemmas.List.{get_or-drop, length-drop, take-take}
use Rattle.std.specs.{Borrow.Bor, List.join_by, Option.option_or}
use Rattle.hip_bytes.specs.{Handle.Handle, Kinds.HoldsByLength, Made.JoinAnswers, declared.grow_fault.GrowFault.GrowFault}
use Rattle.hip_bytes.specs.{declared.grow_fault.GrowFault.TheVariants.Memory, declared.grow_fault.GrowFault.TheVariants.TooLong, Meter.RisesAtMost}
use Rattle.hip_bytes.specs.Join.{gap_at, join_cost, joined}
use Rattle.hip_bytes.proofs.Joins.{joined-map, length-joined-take_more, length-joined-take}
use Rattle.hipstr.specs.Slot.{SlotState, empty_slot, slot_at}
use Rattle.hipstr.specs.Step.{Step, cost_of, fault_of, items_of, joined_slots, length_fault, slot_fault, slots_fault, unless}
use Rattle.hipstr.specs.{Reason.grow_reason_of, declared.command.Answer.Answer, declared.command.Answer.TheVariants.Done, declared.command.Answer.TheVariants.Refused}
use Rattle.hipstr.specs.{declared.command.Command.TheVariants.Join, declared.command.Reason.Reason}
use Rattle.hipstr.specs.{declared.command.Reason.TheVariants.Memory as no_memory, declared.command.Reason.TheVariants.TooLong as no_length}
use Rattle.hipstr.proofs.Places.{placed, short-enough, too-long}
use Rattle.hipstr.proofs.Steps.{faulted, performed}

-- one slot more
pub length-joined_slots-next : (slots : List SlotState) (first i : ℕ) (sep : List ℕ) → first + i < length slots
    → length (joined_slots slots first (i + 1) sep) ≡ length (joined_slots slots first i sep) + length (gap_at i sep) + length (slot_at slots (first + i)).items
length-joined_slots-next slots first i sep within =
    length-joined-take_more items_of sep (drop first slots) i empty_slot (omega (arith, length-drop first slots))
    ∙ ap (λ (slot : SlotState). length (joined_slots slots first i sep) + length (gap_at i sep) + length slot.handle.items) (get_or-drop first slots i empty_slot)

-- a join of fewer slots is no longer
pub length-joined_slots-within : (slots : List SlotState) (first i count : ℕ) (sep : List ℕ) → i ≤ count
    → length (joined_slots slots first i sep) ≤ length (joined_slots slots first count sep)
length-joined_slots-within slots first i count sep within =
    subst (λ (xs : List SlotState). length (join_by items_of sep xs) ≤ length (joined_slots slots first count sep)) (take-take i count (drop first slots) within)
    (length-joined-take items_of sep (take count (drop first slots)) i)

-- how long a join with one slot more is
pub length-next : (slots : List SlotState) (first i : ℕ) (sep shown : List ℕ) (len gap more mid total : ℕ)
    → first + i < length slots → len ≡ length (joined_slots slots first i sep) → gap ≡ length (gap_at i sep) → shown ≡ (slot_at slots (first + i)).items
    → more ≡ length shown → mid ≡ len + gap → total ≡ mid + more → total ≡ length (joined_slots slots first (i + 1) sep)
length-next slots first i sep shown len gap more mid total within so_far is_gap is_slot is_more to_mid to_total =
    omega (arith, length-joined_slots-next slots first i sep within, ap length is_slot)

-- the next item's end lies within the whole
pub next-fits : (slots : List SlotState) (first i count : ℕ) (sep shown : List ℕ) (len gap more : ℕ)
    → first + count ≤ length slots → i < count → len ≡ length (joined_slots slots first i sep) → gap ≡ length (gap_at i sep) → shown ≡ (slot_at slots (first + i)).items
    → more ≡ length shown → (len + gap) + more ≤ length (joined_slots slots first count sep)
next-fits slots first i count sep shown len gap more within before so_far is_gap is_slot is_more =
    omega (
      arith,
      length-next slots first i sep shown len gap more (len + gap) ((len + gap) + more) (omega arith) so_far is_gap is_slot is_more refl refl,
      length-joined_slots-within slots first (i + 1) count sep (omega arith),
    )

-- the gap before the item lies within the whole
pub gap-fits : (slots : List SlotState) (first i count : ℕ) (sep : List ℕ) (len gap : ℕ)
    → first + count ≤ length slots → i < count → len ≡ length (joined_slots slots first i sep) → gap ≡ length (gap_at i sep)
    → len + gap ≤ length (joined_slots slots first count sep)
gap-fits slots first i count sep len gap within before so_far is_gap =
    omega (arith, length-joined_slots-next slots first i sep (omega arith), length-joined_slots-within slots first (i + 1) count sep (omega arith))

-- slices that show the slots' bytes join to what the slots do
pub joined-pieces : (slots : List SlotState) (first count : ℕ) (sep : List ℕ) (pieces shown : List (Bor (List ℕ))) → shown ≡ pieces
    → map (λ piece. piece.now) pieces ≡ map items_of (take count (drop first slots)) → joined sep shown ≡ joined_slots slots first count sep
joined-pieces slots first count sep pieces shown is same =
    ap (joined sep) is ∙ joined-map (λ (piece : Bor (List ℕ)). piece.now) sep pieces ∙ ap (join_by (λ piece. piece) sep) same
    ∙ sym (joined-map items_of sep (take count (drop first slots)))

-- an answer of a join holds its items, and tells when they are too long
pub join-holds : (items : List ℕ) (result : Result Handle GrowFault) → JoinAnswers items result → IfOk result (λ handle. HoldsByLength handle items)
join-holds items (Ok handle) answers = answers.0
join-holds items (Err fault) answers = tt

pub join-too_long : (items : List ℕ) (result : Result Handle GrowFault) → JoinAnswers items result → (result ≡ Err TooLong) ↔ (2 ^ 64 ≤ length items)
join-too_long items (Ok handle) answers = (λ is. search rules, λ long. absurd (omega (arith, answers.1)))
join-too_long items (Err Memory) answers = (λ is. search rules, λ long. absurd (omega (arith, answers.1)))
join-too_long items (Err TooLong) answers = (λ is. answers, λ long. refl)

-- ---- the command
no-fault-before : (old : List SlotState) (first count : ℕ) (sep : Bor (List ℕ)) (t : ℕ) (fault : Option Reason) → slots_fault old first count ≡ None → slot_fault old t ≡ None
    → length_fault (length (joined_slots old first count sep.now)) ≡ fault → fault_of old (Join first count sep t) ≡ fault
no-fault-before old first count sep t fault there there_t is =
    let len = length_fault (length (joined_slots old first count sep.now)) in
    ap (λ (fault : Option Reason). option_or fault (option_or (slot_fault old t) len)) there ∙ ap (λ (fault : Option Reason). option_or fault len) there_t ∙ is

-- a join that isn't too long has a length
fits : {E : Type 0} (result : Result E GrowFault) (len : ℕ) → (result ≡ Err TooLong) ↔ (2 ^ 64 ≤ len) → (result ≡ Err TooLong → ⊥) → length_fault len ≡ None
fits result len tells never = by-order (leb_tells (2 ^ 64) len) where
  by-order : ((nat_le (2 ^ 64) len ≡ true) × (2 ^ 64 ≤ len)) ⊎ ((nat_le (2 ^ 64) len ≡ false) × (len < 2 ^ 64)) → length_fault len ≡ None
  by-order (inl long) = absurd (never (tells.1 long.1))
  by-order (inr short) = short-enough len short.1

pub join-step : {E : Type 0} (result : Result E GrowFault) (made : E) (shares : Bool) (old new : List SlotState) (first count : ℕ) (sep : Bor (List ℕ)) (t : ℕ) (handle : Handle)
    → slots_fault old first count ≡ None → slot_fault old t ≡ None → t < length old → result ≡ Ok made → (result ≡ Err TooLong) ↔ (2 ^ 64 ≤ length (joined_slots old first count sep.now))
    → HoldsByLength handle (joined_slots old first count sep.now) → new ≡ slice_set old t (record { is_text = false; handle = handle }) → Step shares old (Join first count sep t) Done new
join-step {E} result made shares old new first count sep t handle there there_t within is tells holds put =
    let never : result ≡ Err TooLong → ⊥ = λ long. not-both (sym is ∙ long) in
    performed shares old (Join first count sep t) Done new (no-fault-before old first count sep t None there there_t (fits result _ tells never))
    (placed old new t false handle (λ slot. HoldsByLength slot (joined_slots old first count sep.now)) within put holds) where
      not-both : (let r : Result E GrowFault = Ok made in r) ≡ Err TooLong → ⊥
      not-both both = search rules

pub join-refused : {E : Type 0} (result : Result E GrowFault) (shares : Bool) (old new : List SlotState) (first count : ℕ) (sep : Bor (List ℕ)) (t : ℕ) (fault : GrowFault) (answer : Answer)
    → slots_fault old first count ≡ None → slot_fault old t ≡ None → new ≡ old → answer ≡ Refused (grow_reason_of fault) → result ≡ Err fault
    → (result ≡ Err TooLong) ↔ (2 ^ 64 ≤ length (joined_slots old first count sep.now)) → Step shares old (Join first count sep t) answer new
join-refused {E} result shares old new first count sep t fault answer there there_t same told is tells =
    subst (λ (answer : Answer). Step shares old (Join first count sep t) answer new) (sym told) (by-fault fault is) where
      not-both : (let r : Result E GrowFault = Err Memory in r) ≡ Err TooLong → ⊥
      not-both both = search rules

      by-fault : (fault : GrowFault) → result ≡ Err fault → Step shares old (Join first count sep t) (Refused (grow_reason_of fault)) new
      by-fault Memory is =
          let never : result ≡ Err TooLong → ⊥ = λ long. not-both (sym is ∙ long) in
          performed shares old (Join first count sep t) (Refused no_memory) new (no-fault-before old first count sep t None there there_t (fits result _ tells never)) (tt, same)
      by-fault TooLong is = faulted shares old new (Join first count sep t) no_length (no-fault-before old first count sep t (Some no_length) there there_t (too-long _ (tells.0 is))) same

pub join-counted : {E : Type 0} (result : Result E GrowFault) (shares : Bool) (old : List SlotState) (first count : ℕ) (sep : Bor (List ℕ)) (t before after : ℕ)
    → slots_fault old first count ≡ None → slot_fault old t ≡ None → (result ≡ Err TooLong) ↔ (2 ^ 64 ≤ length (joined_slots old first count sep.now))
    → RisesAtMost before after (join_cost shares (length (joined_slots old first count sep.now))) → (result ≡ Err TooLong → after ≡ before) → RisesAtMost before after (cost_of shares old (Join first count sep t))
join-counted result shares old first count sep t before after there there_t tells rises none = by-order (leb_tells (2 ^ 64) len) where
  len : ℕ
  len = length (joined_slots old first count sep.now)

  by-fault : (fault : Option Reason) → length_fault len ≡ fault → RisesAtMost before after (unless fault (join_cost shares len)) → RisesAtMost before after (cost_of shares old (Join first count sep t))
  by-fault fault same counts = subst (λ (fault : Option Reason). RisesAtMost before after (unless fault (join_cost shares len))) (sym (no-fault-before old first count sep t fault there there_t same)) counts

  by-order : ((nat_le (2 ^ 64) len ≡ true) × (2 ^ 64 ≤ len)) ⊎ ((nat_le (2 ^ 64) len ≡ false) × (len < 2 ^ 64)) → RisesAtMost before after (cost_of shares old (Join first count sep t))
  by-order (inl long) = by-fault (Some no_length) (too-long len long.1) (record { never_falls = omega (arith, none (tells.1 long.1)); at_most = omega (arith, none (tells.1 long.1)) })
  by-order (inr short) = by-fault None (short-enough len short.1) rises
