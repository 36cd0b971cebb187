-- The bytes that a command counts at least.
use Rattle.std.proofs.Common.{◌≡◌, ◌≢◌, ℕ, ◌+◌, ◌-◌, ◌*◌, ◌^◌, ◌<◌, slice_set, subst₂, sym, nat_eq, Bool, true, false, if◌then◌else◌, refl, List, length, subst, ap, ◌∙◌, OnOk, IfOk, Result, Ok, Err, arith}
use Rattle.std.proofs.Math.Nat.{min-le_left}
use Rattle.std.proofs.lemmas.Bool.Decides.{nat_tests}
use Rattle.std.proofs.Concat.{length-repeat}
use Rattle.std.proofs.lemmas.List.{get_or-set_same, get_or-set_other, length-set}
use Rattle.hip_bytes.specs.{Made.JoinAnswers, Made.RepeatAnswers, Meter.RisesAtLeast, Meter.RisesAtMost, Handle.Handle, declared.grow_fault.GrowFault.GrowFault}
use Rattle.hip_bytes.specs.Cost.{PartCounts}
use Rattle.hip_cuts.specs.Cut.{PartsCount}
use Rattle.hipstr.specs.{Slot.SlotState, Slot.empty_slot, Slot.slot_at, Slot.state_at, Parts.part_count, Step.counts_of}
use Rattle.hipstr.specs.declared.command.Command.TheVariants.{Repeat}
use Rattle.hipstr.specs.declared.command.{Answer.Answer, Reason.Reason}
use Rattle.hipstr.specs.declared.command.Answer.TheVariants.{Done, Refused}

-- none
pub counts-none : {a b n : ℕ} → RisesAtMost a b n → RisesAtLeast a b 0
counts-none {a} {b} rises = omega (arith, min-le_left (a + 0) (2 ^ 128 - 1), rises.never_falls)

-- those of a part that was put into a slot
pub part-counts : (shares : Bool) (old new : List SlotState) (s t : ℕ) (source : Handle) (slot : SlotState) (a b : ℕ) → t < length old → new ≡ slice_set old t slot → source ≡ slot_at old s
    → PartCounts shares source slot.handle a b → RisesAtLeast a b (part_count shares (slot_at old s) (state_at new t))
part-counts shares old new s t source slot a b within put is counts =
    let there : state_at new t ≡ slot = ap (λ slots. state_at slots t) put ∙ get_or-set_same old t slot empty_slot within in
    subst₂ (λ (from : Handle) (part : SlotState). RisesAtLeast a b (part_count shares from part)) is (sym there) counts

-- those of two parts that were put into slots, one after the other
pub two-count : (shares : Bool) (old mid new : List SlotState) (s t u : ℕ) (source : Handle) (front back : SlotState) (a b : ℕ) → t < length old → u < length old → (t ≡ u → ⊥)
    → mid ≡ slice_set old t front → new ≡ slice_set mid u back → source ≡ slot_at old s → PartsCount shares source front.handle back.handle a b
    → RisesAtLeast a b (part_count shares (slot_at old s) (state_at new t) + part_count shares (slot_at old s) (state_at new u))
two-count shares old mid new s t u source front back a b within_t within_u apart put put_2 is counts =
    let within : u < length mid = omega (arith, within_u, ap (λ (slots : List SlotState). length slots) put, length-set old t front) in
    let there_u : state_at new u ≡ back = ap (λ slots. state_at slots u) put_2 ∙ get_or-set_same mid u back empty_slot within in
    let there_t : state_at new t ≡ front =
    ap (λ slots. state_at slots t) put_2 ∙ get_or-set_other mid u t back empty_slot apart ∙ ap (λ slots. state_at slots t) put ∙ get_or-set_same old t front empty_slot within_t in
    rw (there_t, there_u) (subst (λ (from : Handle). RisesAtLeast a b (part_count shares from front + part_count shares from back)) is counts)

-- none where a command is refused
pub refused-counts : (count : Answer → ℕ) (answer : Answer) (reason : Reason) {a b n : ℕ} → count (Refused reason) ≡ 0 → answer ≡ Refused reason → RisesAtMost a b n → RisesAtLeast a b (count answer)
refused-counts count answer reason none is rises = rw (is, none) (counts-none rises)

-- those of one step and then of others
pub counts-more : (a b c x y : ℕ) → RisesAtLeast a b x → RisesAtLeast b c y → RisesAtLeast a c (x + y)
counts-more a b c x y one others = grind (arith, nat_tests)

-- those of a join
pub join-counts : (items : List ℕ) (result : Result Handle GrowFault) (a b : ℕ) → JoinAnswers items result → IfOk result (λ handle. RisesAtLeast a b (length handle.items)) → OnOk result (RisesAtLeast a b (length items))
join-counts items (Ok handle) a b answers counts = subst (λ (l : List ℕ). RisesAtLeast a b (length l)) answers.0.items_are counts
join-counts items (Err fault) a b answers counts = tt

-- those of a repetition
pub repeat-counts : (shares : Bool) (slots new : List SlotState) (s t n : ℕ) (was : SlotState) (handle : Handle) (a b most : ℕ) → was ≡ state_at slots s → RepeatAnswers was.handle n (Ok handle) → RisesAtMost a b most
    → (n ≢ 1 → RisesAtLeast a b (length handle.items)) → RisesAtLeast a b (counts_of shares slots (Repeat s t n) Done new)
repeat-counts shares slots new s t n was handle a b most is answers rises counts = by-test (nat_eq n 1) refl where
  size : length handle.items ≡ n * length (slot_at slots s).items
  size = ap length answers.0.items_are ∙ length-repeat n was.handle.items ∙ ap (λ (slot : SlotState). n * length slot.handle.items) is

  by-test : (once : Bool) → nat_eq n 1 ≡ once → RisesAtLeast a b (if once then 0 else n * length (slot_at slots s).items)
  by-test true one = counts-none rises
  by-test false other = subst (RisesAtLeast a b) size (counts (λ one. grind (arith, nat_tests)))
