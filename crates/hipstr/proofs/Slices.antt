-- A slice of a slot, bytes or a text, that is put into another.
use Rattle.std.proofs.Common.{◌≡◌, ◌∙◌, ℕ, ◌<◌, Bool, true, false, List, length, slice_set, Option, Some, None, Err, if◌then◌else◌, is_none, ap, refl, subst, sym}
use Rattle.std.specs.{Option.option_map, Option.option_or, declared.ops.Bound.Bound}
use Rattle.hip_bytes.specs.{Cost.cut_cost, Cost.CutNeedsMemory, Handle.Handle, Made.IsPart, Meter.RisesAtMost, Range.slice_fault, Range.slice_of, Slice.SliceAnswers, Slice.slice_cost}
use Rattle.hip_bytes.specs.{declared.slice_error.SliceRefusal.SliceRefusal}
use Rattle.hip_bytes.specs.{declared.slice_error.SliceRefusal.TheVariants.Slice as bytes_slice, declared.slice_error.SliceRefusal.TheVariants.Memory as bytes_memory}
use Rattle.hip_text.specs.Slice.{text_slice_fault, SliceAnswers as TextAnswers, slice_cost as text_cost}
use Rattle.hip_text.specs.{declared.slice_error.SliceRefusal.SliceRefusal as TextRefusal}
use Rattle.hip_text.specs.{declared.slice_error.SliceRefusal.TheVariants.Slice as text_slice, declared.slice_error.SliceRefusal.TheVariants.Memory as text_memory}
use Rattle.hipstr.proofs.Steps.{faulted, performed, replaced}
use Rattle.hipstr.specs.Reason.{bytes_refusal, reason_of, text_reason_of, text_refusal}
use Rattle.hipstr.specs.{Slot.SlotState, Slot.state_at, declared.command.Answer.Answer, declared.command.Answer.TheVariants.Done, declared.command.Answer.TheVariants.Refused}
use Rattle.hipstr.specs.{declared.command.Command.TheVariants.Slice, declared.command.Reason.Reason, declared.command.Reason.TheVariants.Memory}
use Rattle.hipstr.specs.Step.{Step, cost_of, fault_of, slot_fault, unless}

-- why the range is none of a slot, the length of its part, and the part's cost
abbrev fault_in : Bound ℕ → Bound ℕ → SlotState → Option Reason
fault_in low high slot =
    if slot.is_text then option_map text_reason_of (text_slice_fault low high slot.handle.items) else option_map reason_of (slice_fault low high (length slot.handle.items))

none-told : {K : Type 0} (told : K → Reason) (fault : Option K) → is_none (option_map told fault) ≡ is_none fault
none-told told None = refl
none-told told (Some kind) = refl

-- both slots are there, and the source is `was`
pub record Slices (old : List SlotState) (s t : ℕ) (was : SlotState) : Type 0 where
  pub source : slot_fault old s ≡ None
  pub target : slot_fault old t ≡ None
  pub is : was ≡ state_at old s

module _ (shares : Bool) {old : List SlotState} {s t : ℕ} (low high : Bound ℕ) {was : SlotState} (at : Slices old s t was) where
  the-fault : fault_in low high was ≡ fault_of old (Slice s t low high)
  the-fault =
      ap (fault_in low high) at.is
      ∙ sym (ap (λ (none : Option Reason). option_or none (option_or (slot_fault old t) (fault_in low high (state_at old s)))) at.source ∙ ap (λ (none : Option Reason). option_or none (fault_in low high (state_at old s))) at.target)

  sliced : (made : SlotState) (new : List SlotState) → fault_in low high was ≡ None → t < length old → new ≡ slice_set old t made → made.is_text ≡ was.is_text
      → IsPart was.handle made.handle (slice_of low high was.handle.items) → Step shares old (Slice s t low high) Done new
  sliced made new none within put flag part =
      performed shares old (Slice s t low high) Done new (sym the-fault ∙ none)
      (replaced old new t made _ _ within put (flag ∙ ap (λ (slot : SlotState). slot.is_text) at.is) (subst (λ (slot : SlotState). IsPart slot.handle made.handle (slice_of low high slot.handle.items)) at.is part))

  out-of-memory : (new : List SlotState) → fault_in low high was ≡ None → CutNeedsMemory was.handle.kind (length (slice_of low high was.handle.items)) → new ≡ old → Step shares old (Slice s t low high) (Refused Memory) new
  out-of-memory new none needs same =
      performed shares old (Slice s t low high) (Refused Memory) new (sym the-fault ∙ none)
      (subst (λ (slot : SlotState). CutNeedsMemory slot.handle.kind (length (slice_of low high slot.handle.items))) at.is needs, same)

  no-range : (reason : Reason) (new : List SlotState) → fault_in low high was ≡ Some reason → new ≡ old → Step shares old (Slice s t low high) (Refused reason) new
  no-range reason new is same = faulted shares old new (Slice s t low high) reason (sym the-fault ∙ is) same

  counted : (m n : ℕ) → RisesAtMost m n (if is_none (fault_in low high was) then cut_cost shares was.handle.kind (length (slice_of low high was.handle.items)) else 0) → RisesAtMost m n (cost_of shares old (Slice s t low high))
  counted m n =
      subst (RisesAtMost m n)
      (ap (λ (slot : SlotState). unless (fault_in low high was) (cut_cost shares slot.handle.kind (length (slice_of low high slot.handle.items)))) at.is
      ∙ ap (λ (fault : Option Reason). unless fault (cut_cost shares (state_at old s).handle.kind (length (slice_of low high (state_at old s).handle.items)))) the-fault)

module _ (shares : Bool) {old : List SlotState} {s t : ℕ} (low high : Bound ℕ) {handle : Handle} (at : Slices old s t (record { is_text = false; handle = handle })) where
  pub bytes-sliced : (made : Handle) (new : List SlotState) → t < length old → new ≡ slice_set old t (record { is_text = false; handle = made })
      → (slice_fault low high (length handle.items) ≡ None) × IsPart handle made (slice_of low high handle.items) → Step shares old (Slice s t low high) Done new
  bytes-sliced made new within put answers = sliced shares low high at (record { is_text = false; handle = made }) new (ap (option_map reason_of) answers.0) within put refl answers.1

  pub bytes-unsliced : {B S P : Type 0} (refusal : SliceRefusal B S P) (answer : Answer) (new : List SlotState) → answer ≡ Refused (bytes_refusal refusal) → SliceAnswers handle low high (Err refusal) → new ≡ old
      → Step shares old (Slice s t low high) answer new
  bytes-unsliced refusal answer new told answers same = subst (λ (answer : Answer). Step shares old (Slice s t low high) answer new) (sym told) (by-refusal refusal answers) where
    by-refusal : {B S P : Type 0} (refusal : SliceRefusal B S P) → SliceAnswers handle low high (Err refusal) → Step shares old (Slice s t low high) (Refused (bytes_refusal refusal)) new
    by-refusal bytes_memory answers = out-of-memory shares low high at new (ap (option_map reason_of) answers.0) answers.1 same
    by-refusal (bytes_slice error) answers = no-range shares low high at _ new (ap (option_map reason_of) answers.fault) same

  pub bytes-counted : (m n : ℕ) → RisesAtMost m n (slice_cost shares handle low high) → RisesAtMost m n (cost_of shares old (Slice s t low high))
  bytes-counted m n rises =
      counted shares low high at m n
      (subst (λ b. RisesAtMost m n (if b then cut_cost shares handle.kind (length (slice_of low high handle.items)) else 0)) (sym (none-told reason_of (slice_fault low high (length handle.items)))) rises)

module _ (shares : Bool) {old : List SlotState} {s t : ℕ} (low high : Bound ℕ) {handle : Handle} (at : Slices old s t (record { is_text = true; handle = handle })) where
  pub text-sliced : (made : Handle) (new : List SlotState) → t < length old → new ≡ slice_set old t (record { is_text = true; handle = made })
      → (text_slice_fault low high handle.items ≡ None) × IsPart handle made (slice_of low high handle.items) → Step shares old (Slice s t low high) Done new
  text-sliced made new within put answers = sliced shares low high at (record { is_text = true; handle = made }) new (ap (option_map text_reason_of) answers.0) within put refl answers.1

  pub text-unsliced : {B S P : Type 0} (refusal : TextRefusal B S P) (answer : Answer) (new : List SlotState) → answer ≡ Refused (text_refusal refusal) → TextAnswers handle low high (Err refusal) → new ≡ old
      → Step shares old (Slice s t low high) answer new
  text-unsliced refusal answer new told answers same = subst (λ (answer : Answer). Step shares old (Slice s t low high) answer new) (sym told) (by-refusal refusal answers) where
    by-refusal : {B S P : Type 0} (refusal : TextRefusal B S P) → TextAnswers handle low high (Err refusal) → Step shares old (Slice s t low high) (Refused (text_refusal refusal)) new
    by-refusal text_memory answers = out-of-memory shares low high at new (ap (option_map text_reason_of) answers.0) answers.1 same
    by-refusal (text_slice error) answers = no-range shares low high at _ new (ap (option_map text_reason_of) answers.fault) same

  pub text-counted : (m n : ℕ) → RisesAtMost m n (text_cost shares handle low high) → RisesAtMost m n (cost_of shares old (Slice s t low high))
  text-counted m n rises =
      counted shares low high at m n
      (subst (λ b. RisesAtMost m n (if b then cut_cost shares handle.kind (length (slice_of low high handle.items)) else 0)) (sym (none-told text_reason_of (text_slice_fault low high handle.items))) rises)
