-- Commands that are a call on one slot, which changes where it stands.
use Rattle.std.proofs.Common.{◌≡◌, ◌∙◌, ℕ, ◌<◌, inl, inr, Bool, true, false, List, length, map, max, get_or, slice_set, Option, Some, None, Result, Ok, Err, MatchOption, OnOk, ap, refl, subst, sym}
use Rattle.std.specs.{Borrow.Bor, Char.to_ascii_lowercase, Char.to_ascii_uppercase, Option.option_or}
use Rattle.hip_bytes.specs.Change.{IsPushed, IsRewritten, IsShortened, IsShrunk}
use Rattle.hip_bytes.specs.Cost.{lent_count, owned_cost, push_cost, shortened_cost, shrink_cost, write_cost, CutNeedsMemory, OwnNeedsMemory, PushNeedsMemory, WriteNeedsMemory}
use Rattle.hip_bytes.specs.{Handle.Handle, Made.IsOwned, Meter.RisesAtLeast, Meter.RisesAtMost}
use Rattle.hipstr.proofs.Counts.{counts-none}
use Rattle.hipstr.proofs.Places.{put-is, state-there}
use Rattle.hipstr.proofs.Steps.{as-it-was, faulted, neither, no-other, performed, replaced, slot-there}
use Rattle.hipstr.specs.{Reason.answer_of, declared.command.Answer.Answer, declared.command.Command.Command, declared.command.Reason.Reason, declared.command.Reason.TheVariants.Memory}
use Rattle.hipstr.specs.{declared.pool.Slot.Slot}
use Rattle.hipstr.specs.Slot.{Replaces, SlotState, slot_at, state_at, state_of, text_at}
use Rattle.hipstr.specs.Step.{IsHalfMutated, Performs, SlotAnswers, SlotMutates, SlotPops, Step, addition_fault, cost_of, end_fault, fault_of, mutate_cost, not_text_fault, set_fault, slot_fault, text_fault, unless}
use Rattle.hipstr.specs.declared.command.Answer.TheVariants.{Byte, Char, Done, Nothing, Refused}
use Rattle.hipstr.specs.declared.command.Command.TheVariants.{Bytes, Clear, Lower, Mutate, Owned, Pop, Push, Set, Shrink, Text, Truncate, Upper}

-- the slot at t became another, and no other slot did
pub record InPlace (old new : List SlotState) (t : ℕ) (was slot : SlotState) : Type 0 where
  pub within : t < length old
  pub is_was : was ≡ state_at old t
  pub put : new ≡ slice_set old t slot

pub in-place : {B S P : Type 0} (items : List (Slot B S P)) (old : List SlotState) (t : ℕ) (now changed : Slot B S P) → map state_of items ≡ old → t < length old → now ≡ get_or items t now
    → InPlace old (map state_of (slice_set items t changed)) t (state_of now) (state_of changed)
in-place items old t now changed view within is = record {
  within = within;
  is_was = state-there items old t now view within is;
  put = put-is items old t changed view;
}

-- a call that may be refused
slot-step : (shares : Bool) {old new : List SlotState} {t : ℕ} {was slot : SlotState} (at : InPlace old new t was slot) (command : Command) (fault : SlotState → Option Reason) (Needs : SlotState → Type 0)
    (is_text : SlotState → Bool) (P : Handle → Handle → Type 0) (result : Result Answer Reason) → fault_of old command ≡ option_or (slot_fault old t) (fault (state_at old t))
    → SlotAnswers (fault was) (Needs was) (is_text was) (P was.handle) was result slot
    → (Replaces old new t (is_text (state_at old t)) (P (slot_at old t)) → Performs shares old command Done new) → (Needs (state_at old t) → new ≡ old → Performs shares old command (Refused Memory) new)
    → Step shares old command (answer_of result) new
slot-step shares {old} {new} {t} {was} {slot} at command fault Needs is_text P result is answers done refused =
    by-result result (fault (state_at old t)) is (subst (λ (s : SlotState). SlotAnswers (fault s) (Needs s) (is_text s) (P s.handle) s result slot) at.is_was answers) where
      there : slot_fault old t ≡ None
      there = slot-there old t at.within

      by-result : (result : Result Answer Reason) (first : Option Reason) → fault_of old command ≡ option_or (slot_fault old t) first
          → SlotAnswers first (Needs (state_at old t)) (is_text (state_at old t)) (P (slot_at old t)) (state_at old t) result slot → Step shares old command (answer_of result) new
      by-result (Ok answer) first is answers =
          subst (λ (answer : Answer). Step shares old command answer new) (sym answers.1)
          (performed shares old command Done new (is ∙ neither (slot_fault old t) first there answers.0) (done (replaced old new t slot _ _ at.within at.put answers.2 answers.3)))
      by-result (Err reason) None is answers =
          subst (λ (reason : Reason). Step shares old command (Refused reason) new) (sym answers.0.0)
          (performed shares old command (Refused Memory) new (is ∙ neither (slot_fault old t) None there refl) (refused answers.0.1 (as-it-was old new t slot at.put answers.1)))
      by-result (Err reason) (Some first) is answers =
          subst (λ (reason : Reason). Step shares old command (Refused reason) new) (sym answers.0)
          (faulted shares old new command first (is ∙ ap (λ (none : Option Reason). option_or none (Some first)) there) (as-it-was old new t slot at.put answers.1))

-- a slot after a refused Mutate, by its fault
abbrev AfterRefusal : SlotState → SlotState → Reason → Option Reason → Type 0
AfterRefusal old new reason fault =
    MatchOption fault ((reason ≡ Memory) × (new.is_text ≡ old.is_text) × IsHalfMutated old.handle new.handle) (λ first. (reason ≡ first) × (new ≡ old))

module _ (shares : Bool) {old new : List SlotState} {t : ℕ} {was slot : SlotState} (at : InPlace old new t was slot) where
  pub push-step : (bytes : Bor (List ℕ)) (result : Result Answer Reason) → SlotAnswers (addition_fault was bytes.now)
      (PushNeedsMemory shares was.handle.kind was.handle.capacity (length was.handle.items) (length bytes.now)) was.is_text (λ new. IsPushed shares was.handle new bytes.now) was result slot
      → Step shares old (Push t bytes) (answer_of result) new
  push-step bytes result answers =
      slot-step shares at (Push t bytes) (λ slot. addition_fault slot bytes.now) (λ slot. PushNeedsMemory shares slot.handle.kind slot.handle.capacity (length slot.handle.items) (length bytes.now))
      (λ slot. slot.is_text) (λ was now. IsPushed shares was now bytes.now) result refl answers (λ done. done) (λ needs same. (needs, same))

  pub truncate-step : (n : ℕ) (result : Result Answer Reason) → SlotAnswers (end_fault was n) ⊥ was.is_text (λ new. IsShortened was.handle new n) was result slot → Step shares old (Truncate t n) (answer_of result) new
  truncate-step n result answers = slot-step shares at (Truncate t n) (λ slot. end_fault slot n) (λ slot. ⊥) (λ slot. slot.is_text) (λ was now. IsShortened was now n) result refl answers (λ done. done) (λ never same. absurd never)

  pub set-step : (i byte : ℕ) (result : Result Answer Reason) → SlotAnswers (set_fault was i) (WriteNeedsMemory shares was.handle.kind (length was.handle.items)) false
      (λ new. IsRewritten shares was.handle new (slice_set was.handle.items i byte)) was result slot → Step shares old (Set t i byte) (answer_of result) new
  set-step i byte result answers =
      slot-step shares at (Set t i byte) (λ slot. set_fault slot i) (λ slot. WriteNeedsMemory shares slot.handle.kind (length slot.handle.items)) (λ slot. false)
      (λ was now. IsRewritten shares was now (slice_set was.items i byte)) result refl answers (λ done. done) (λ needs same. (needs, same))

  pub owned-step : (result : Result Answer Reason) → SlotAnswers None (OwnNeedsMemory was.handle.kind (length was.handle.items)) was.is_text (IsOwned was.handle) was result slot → Step shares old (Owned t) (answer_of result) new
  owned-step result answers =
      slot-step shares at (Owned t) (λ slot. None) (λ slot. OwnNeedsMemory slot.handle.kind (length slot.handle.items)) (λ slot. slot.is_text) IsOwned result (no-other (slot_fault old t)) answers
      (λ done. done) (λ needs same. (needs, same))

  pub text-step : (result : Result Answer Reason) → SlotAnswers (text_fault was) ⊥ true (λ new. new ≡ was.handle) was result slot → Step shares old (Text t) (answer_of result) new
  text-step result answers = slot-step shares at (Text t) text_fault (λ slot. ⊥) (λ slot. true) (λ was now. now ≡ was) result refl answers (λ done. done) (λ never same. absurd never)

  pub bytes-step : (result : Result Answer Reason) → SlotAnswers (not_text_fault was) ⊥ false (λ new. new ≡ was.handle) was result slot → Step shares old (Bytes t) (answer_of result) new
  bytes-step result answers = slot-step shares at (Bytes t) not_text_fault (λ slot. ⊥) (λ slot. false) (λ was now. now ≡ was) result refl answers (λ done. done) (λ never same. absurd never)

  pub mutate-step : (bytes : Bor (List ℕ)) (result : Result Answer Reason) → SlotMutates bytes.now was result slot → Step shares old (Mutate t bytes) (answer_of result) new
  mutate-step bytes result answers =
      by-result result (addition_fault (state_at old t) bytes.now) refl (subst (λ (s : SlotState). SlotMutates bytes.now s result slot) at.is_was answers) where
        there : slot_fault old t ≡ None
        there = slot-there old t at.within

        half : slot.is_text ≡ text_at old t → IsHalfMutated (slot_at old t) slot.handle → Performs shares old (Mutate t bytes) (Refused Memory) new
        half flag (inl same) = inl (as-it-was old new t slot at.put (λ i. record { is_text = flag i; handle = same i }))
        half flag (inr (inl holds)) = inr (inl (replaced old new t slot _ _ at.within at.put flag holds))
        half flag (inr (inr empty)) = inr (inr (replaced old new t slot _ _ at.within at.put flag empty))

        by-result : (result : Result Answer Reason) (first : Option Reason) → addition_fault (state_at old t) bytes.now ≡ first → SlotMutates bytes.now (state_at old t) result slot → Step shares old (Mutate t bytes) (answer_of result) new
        by-result (Ok answer) first is answers =
            subst (λ (answer : Answer). Step shares old (Mutate t bytes) answer new) (sym answers.1)
            (performed shares old (Mutate t bytes) Done new (neither (slot_fault old t) _ there answers.0) (replaced old new t slot _ _ at.within at.put answers.2 answers.3))
        by-result (Err reason) None is answers =
            let left = subst (AfterRefusal (state_at old t) slot reason) is answers in
            subst (λ (reason : Reason). Step shares old (Mutate t bytes) (Refused reason) new) (sym left.0)
            (performed shares old (Mutate t bytes) (Refused Memory) new (neither (slot_fault old t) _ there is) (half left.1 left.2))
        by-result (Err reason) (Some first) is answers =
            let kept = subst (AfterRefusal (state_at old t) slot reason) is answers in
            subst (λ (reason : Reason). Step shares old (Mutate t bytes) (Refused reason) new) (sym kept.0)
            (faulted shares old new (Mutate t bytes) first (ap (λ (none : Option Reason). option_or none (addition_fault (state_at old t) bytes.now)) there ∙ is) (as-it-was old new t slot at.put kept.1))

  -- bytes that were written over
  rewritten : (f : List ℕ → List ℕ) → IsRewritten shares was.handle slot.handle (f was.handle.items) → slot.is_text ≡ was.is_text
      → Replaces old new t (text_at old t) (λ now. IsRewritten shares (slot_at old t) now (f (slot_at old t).items))
  rewritten f done flag =
      replaced old new t slot _ _ at.within at.put (flag ∙ ap (λ (s : SlotState). s.is_text) at.is_was) (subst (λ (s : SlotState). IsRewritten shares s.handle slot.handle (f s.handle.items)) at.is_was done)

  pub upper-step : IsRewritten shares was.handle slot.handle (map to_ascii_uppercase was.handle.items) → slot.is_text ≡ was.is_text → Step shares old (Upper t) Done new
  upper-step done flag = performed shares old (Upper t) Done new (slot-there old t at.within) (rewritten (map to_ascii_uppercase) done flag)

  pub lower-step : IsRewritten shares was.handle slot.handle (map to_ascii_lowercase was.handle.items) → slot.is_text ≡ was.is_text → Step shares old (Lower t) Done new
  lower-step done flag = performed shares old (Lower t) Done new (slot-there old t at.within) (rewritten (map to_ascii_lowercase) done flag)

  -- the bytes that a call on the slot counts at least
  pub lent-counts : (m n : ℕ) → RisesAtLeast m n (lent_count was.handle.kind (length was.handle.items)) → RisesAtLeast m n (lent_count (slot_at old t).kind (length (slot_at old t).items))
  lent-counts m n = subst (λ (s : SlotState). RisesAtLeast m n (lent_count s.handle.kind (length s.handle.items))) at.is_was

  pub refused-counted : (count : Answer → List SlotState → ℕ) (answer : Answer) (reason : Reason) (m n most : ℕ) → count (Refused reason) new ≡ 0 → answer ≡ Refused reason → RisesAtMost m n most
      → RisesAtLeast m n (count answer new)
  refused-counted count answer reason m n most none is counted = rw (is, none) (counts-none counted)

  pub answered-counts : (count : Answer → List SlotState → ℕ) (fault : Option Reason) (Needs : Type 0) (is_text : Bool) (P : Handle → Type 0) (result : Result Answer Reason) (m n most : ℕ)
      → count Done new ≡ lent_count (slot_at old t).kind (length (slot_at old t).items) → ((reason : Reason) → count (Refused reason) new ≡ 0) → SlotAnswers fault Needs is_text P was result slot
      → OnOk result (RisesAtLeast m n (lent_count was.handle.kind (length was.handle.items))) → RisesAtMost m n most → RisesAtLeast m n (count (answer_of result) new)
  answered-counts count fault Needs is_text P (Ok answer) m n most is none answers copied counted = rw (answers.1, is) (lent-counts m n copied)
  answered-counts count fault Needs is_text P (Err reason) m n most is none answers copied counted = rw (none reason) (counts-none counted)

  -- the bytes that a call on the slot may copy
  there : (copies : SlotState → ℕ) → copies was ≡ unless (slot_fault old t) (copies (state_at old t))
  there copies = ap copies at.is_was ∙ ap (λ (fault : Option Reason). unless fault (copies (state_at old t))) (sym (slot-there old t at.within))

  unfaulted : (fault : SlotState → Option Reason) (copies : SlotState → ℕ) → unless (fault was) (copies was) ≡ unless (option_or (slot_fault old t) (fault (state_at old t))) (copies (state_at old t))
  unfaulted fault copies =
      ap (λ (s : SlotState). unless (fault s) (copies s)) at.is_was
      ∙ ap (λ (none : Option Reason). unless (option_or none (fault (state_at old t))) (copies (state_at old t))) (sym (slot-there old t at.within))

  pub push-counted : (bytes : Bor (List ℕ)) (m n : ℕ) → RisesAtMost m n (unless (addition_fault was bytes.now) (push_cost shares (length was.handle.items) (length bytes.now))) → RisesAtMost m n (cost_of shares old (Push t bytes))
  push-counted bytes m n = subst (RisesAtMost m n) (unfaulted (λ s. addition_fault s bytes.now) (λ s. push_cost shares (length s.handle.items) (length bytes.now)))

  pub mutate-counted : (bytes : Bor (List ℕ)) (m n : ℕ) → RisesAtMost m n (unless (addition_fault was bytes.now) (mutate_cost shares (length was.handle.items) (length bytes.now))) → RisesAtMost m n (cost_of shares old (Mutate t bytes))
  mutate-counted bytes m n = subst (RisesAtMost m n) (unfaulted (λ s. addition_fault s bytes.now) (λ s. mutate_cost shares (length s.handle.items) (length bytes.now)))

  pub truncate-counted : (end m n : ℕ) → RisesAtMost m n (unless (end_fault was end) (shortened_cost was.handle.kind)) → RisesAtMost m n (cost_of shares old (Truncate t end))
  truncate-counted end m n = subst (RisesAtMost m n) (unfaulted (λ s. end_fault s end) (λ s. shortened_cost s.handle.kind))

  pub set-counted : (i byte m n : ℕ) → RisesAtMost m n (unless (set_fault was i) (write_cost shares was.handle.kind (length was.handle.items))) → RisesAtMost m n (cost_of shares old (Set t i byte))
  set-counted i byte m n = subst (RisesAtMost m n) (unfaulted (λ s. set_fault s i) (λ s. write_cost shares s.handle.kind (length s.handle.items)))

  pub owned-counted : (m n : ℕ) → RisesAtMost m n (owned_cost shares was.handle.kind (length was.handle.items)) → RisesAtMost m n (cost_of shares old (Owned t))
  owned-counted m n = subst (RisesAtMost m n) (there (λ s. owned_cost shares s.handle.kind (length s.handle.items)))

  pub pop-counted : (m n : ℕ) → RisesAtMost m n (shortened_cost was.handle.kind) → RisesAtMost m n (cost_of shares old (Pop t))
  pop-counted m n = subst (RisesAtMost m n) (there (λ s. shortened_cost s.handle.kind))

  pub write-counted : (m n : ℕ) → RisesAtMost m n (write_cost shares was.handle.kind (length was.handle.items)) → RisesAtMost m n (cost_of shares old (Upper t))
  write-counted m n = subst (RisesAtMost m n) (there (λ s. write_cost shares s.handle.kind (length s.handle.items)))

  pub shrink-counted : (least m n : ℕ) → RisesAtMost m n (shrink_cost shares was.handle.kind (length was.handle.items)) → RisesAtMost m n (cost_of shares old (Shrink t least))
  shrink-counted least m n = subst (RisesAtMost m n) (there (λ s. shrink_cost shares s.handle.kind (length s.handle.items)))

  -- a command that was refused memory, and left the slot as it was
  unchanged : slot.handle ≡ was.handle → slot.is_text ≡ was.is_text → new ≡ old
  unchanged same flag = as-it-was old new t slot at.put ((λ i. record { is_text = flag i; handle = same i }) ∙ at.is_was)

  write-refused : (command : Command) (answer : Answer) → fault_of old command ≡ slot_fault old t → answer ≡ Refused Memory → Performs shares old command (Refused Memory) new → Step shares old command answer new
  write-refused command answer is told done = subst (λ (answer : Answer). Step shares old command answer new) (sym told) (performed shares old command (Refused Memory) new (is ∙ slot-there old t at.within) done)

  needs-there : WriteNeedsMemory shares was.handle.kind (length was.handle.items) → WriteNeedsMemory shares (slot_at old t).kind (length (slot_at old t).items)
  needs-there = subst (λ (s : SlotState). WriteNeedsMemory shares s.handle.kind (length s.handle.items)) at.is_was

  pub upper-refused : (answer : Answer) → answer ≡ Refused Memory → WriteNeedsMemory shares was.handle.kind (length was.handle.items) × (slot.handle ≡ was.handle) → slot.is_text ≡ was.is_text → Step shares old (Upper t) answer new
  upper-refused answer told why flag = write-refused (Upper t) answer refl told (needs-there why.0, unchanged why.1 flag)

  pub lower-refused : (answer : Answer) → answer ≡ Refused Memory → WriteNeedsMemory shares was.handle.kind (length was.handle.items) × (slot.handle ≡ was.handle) → slot.is_text ≡ was.is_text → Step shares old (Lower t) answer new
  lower-refused answer told why flag = write-refused (Lower t) answer refl told (needs-there why.0, unchanged why.1 flag)

  pub shrink-refused : (least : ℕ) (answer : Answer) → answer ≡ Refused Memory → CutNeedsMemory was.handle.kind (max least (length was.handle.items)) × (slot.handle ≡ was.handle) → slot.is_text ≡ was.is_text
      → Step shares old (Shrink t least) answer new
  shrink-refused least answer told why flag =
      write-refused (Shrink t least) answer refl told (subst (λ (s : SlotState). CutNeedsMemory s.handle.kind (max least (length s.handle.items))) at.is_was why.0, unchanged why.1 flag)

  pub shrink-step : (least : ℕ) → IsShrunk was.handle slot.handle (max least (length was.handle.items)) → slot.is_text ≡ was.is_text → Step shares old (Shrink t least) Done new
  shrink-step least done flag =
      performed shares old (Shrink t least) Done new (slot-there old t at.within)
      (replaced old new t slot _ _ at.within at.put (flag ∙ ap (λ (s : SlotState). s.is_text) at.is_was) (subst (λ (s : SlotState). IsShrunk s.handle slot.handle (max least (length s.handle.items))) at.is_was done))

  pub clear-step : IsShortened was.handle slot.handle 0 → slot.is_text ≡ was.is_text → Step shares old (Clear t) Done new
  clear-step done flag =
      performed shares old (Clear t) Done new (slot-there old t at.within)
      (replaced old new t slot _ _ at.within at.put (flag ∙ ap (λ (s : SlotState). s.is_text) at.is_was) (subst (λ (s : SlotState). IsShortened s.handle slot.handle 0) at.is_was done))

  pub clear-counted : (m n : ℕ) → RisesAtMost m n (shortened_cost was.handle.kind) → RisesAtMost m n (cost_of shares old (Clear t))
  clear-counted m n = subst (RisesAtMost m n) (there (λ s. shortened_cost s.handle.kind))

  pub pop-step : (answer : Answer) → SlotPops was answer slot → Step shares old (Pop t) answer new
  pop-step answer pops = performed shares old (Pop t) answer new (slot-there old t at.within) (by-answer answer (subst (λ (s : SlotState). SlotPops s answer slot) at.is_was pops)) where
    by-answer : (answer : Answer) → SlotPops (state_at old t) answer slot → Performs shares old (Pop t) answer new
    by-answer (Byte byte) pops = (pops.0, replaced old new t slot _ _ at.within at.put pops.1 pops.2)
    by-answer (Char c) pops = (pops.0, replaced old new t slot _ _ at.within at.put pops.1 pops.2)
    by-answer Nothing pops = (pops.0, as-it-was old new t slot at.put pops.1)
    by-answer answer pops = absurd pops
