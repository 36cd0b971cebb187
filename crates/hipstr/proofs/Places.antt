-- Lemmas on the places of a pool, for the methods that put a slot into one.
use Rattle.std.proofs.Common.{◌≡◌, ◌∙◌, ◌*◌, ◌^◌, ◌<◌, ◌≤◌, ◌↔◌, if◌then◌else◌, List, [], ℕ, Bool, false, true, length, map, get_or, replicate, slice_set, ap, refl, subst, sym, arith, rules, Option, Some, None, IfSome, IsSome, Result, Ok, Err, MatchOption}
use Rattle.std.proofs.{lemmas.Grind.common_steps, Math.Dec.ltb}
use Rattle.std.proofs.lemmas.List.{get_or-map, length-map, length-set, map-set, set-get_or}
use Rattle.hip_bytes.specs.{Handle.Handle, Kinds.IsEmptyInline, declared.kind.Kind.Kind, declared.kind.Kind.TheVariants.Inline, Made.RepeatAnswers, Join.repeat_cost, Meter.RisesAtMost}
use Rattle.hip_bytes.specs.{declared.grow_fault.GrowFault.GrowFault}
use Rattle.hip_bytes.specs.{declared.grow_fault.GrowFault.TheVariants.Memory as grow_memory, declared.grow_fault.GrowFault.TheVariants.TooLong as grow_too_long}
use Rattle.hip_cuts.specs.{Cut.PartsIfAny, Piece.IsPartAt}
use Rattle.hip_text.proofs.Texts.{texts}
use Rattle.std.proofs.lemmas.Bool.{le-ltb, lt-ltb, ltb-true}
use Rattle.std.specs.{Borrow.Bor, Slice.IsItemAt, Option.option_or}
use Rattle.hipstr.specs.{Reason.grow_reason_of, declared.command.Answer.Answer, declared.command.Reason.Reason, declared.command.Answer.TheVariants.Done, declared.command.Answer.TheVariants.Refused}
use Rattle.hipstr.specs.{declared.command.Command.TheVariants.Repeat, declared.command.Reason.TheVariants.Memory, declared.command.Reason.TheVariants.TooLong, declared.pool.Slot.Slot}
use Rattle.hipstr.specs.Step.{Step, cost_of, fault_of, length_fault, slot_fault, unless}
use Rattle.hipstr.proofs.Steps.{faulted, neither, performed, replaced}
use Rattle.hipstr.specs.Slot.{SlotState, Replaces, empty_slot, slot_at, state_at, state_of}

-- a place that is written with what it holds stays as it is
pub ruleset in_place = (common_steps, texts, map-set, get_or-map, length-map, set-get_or)

-- the pool's list of states when a slot is put, or changed where it stands
pub put-is : {B S P : Type 0} (items : List (Slot B S P)) (slots : List SlotState) (t : ℕ) (slot : Slot B S P) → map state_of items ≡ slots
    → map state_of (slice_set items t slot) ≡ slice_set slots t (state_of slot)
put-is items slots t slot is = map-set state_of items t slot ∙ ap (λ l. slice_set l t (state_of slot)) is

-- the state of the slot that stands at a position
pub state-there : {B S P : Type 0} (items : List (Slot B S P)) (slots : List SlotState) (i : ℕ) (slot : Slot B S P) → map state_of items ≡ slots → i < length slots → slot ≡ get_or items i slot
    → state_of slot ≡ state_at slots i
state-there items slots i slot view within is =
    let inside : i < length items = omega (arith, within, length-map items state_of, ap length view) in
    ap state_of is ∙ sym (get_or-map state_of items i slot empty_slot inside) ∙ ap (λ l. state_at l i) view

-- there are as many spare slots as places when one is changed where it stands
pub spare-kept : {B S P : Type 0} (items spare : List (Slot B S P)) (t : ℕ) (slot : Slot B S P) → map state_of spare ≡ replicate (length items) empty_slot
    → map state_of spare ≡ replicate (length (slice_set items t slot)) empty_slot
spare-kept items spare t slot is = is ∙ ap (λ n. replicate n empty_slot) (sym (length-set items t slot))

-- a slot of an empty handle is empty
pub empty_handle : (handle : Handle) → IsEmptyInline handle → (let slot : SlotState = record { is_text = false; handle = handle } in slot) ≡ empty_slot
empty_handle handle empty =
    ap (λ (kind : Kind). let slot : SlotState = record { is_text = false; handle = record { kind = kind; items = handle.items; capacity = handle.capacity } } in slot) empty.kind_is
    ∙ ap (λ (items : List ℕ). let slot : SlotState = record { is_text = false; handle = record { kind = Inline; items = items; capacity = handle.capacity } } in slot) empty.items_are
    ∙ ap (λ (n : ℕ). let slot : SlotState = record { is_text = false; handle = record { kind = Inline; items = []; capacity = n } } in slot) empty.capacity

-- a slot that was put is replaced by one whose handle P holds of
pub placed : (old new : List SlotState) (t : ℕ) (is_text : Bool) (handle : Handle) (P : Handle → Type 0)
    → t < length old → new ≡ slice_set old t (record { is_text = is_text; handle = handle }) → P handle → Replaces old new t is_text P
placed old new t is_text handle P within put p = replaced old new t (record { is_text = is_text; handle = handle }) is_text P within put refl p

-- a trim of the source was put
pub trimmed-put : (old new : List SlotState) (t : ℕ) (text source left : Handle) (P : Handle → ℕ × ℕ → Type 0)
    → t < length old → text ≡ source → (range : ℕ × ℕ) × P text range × IsPartAt text range left → new ≡ slice_set old t (record { is_text = true; handle = left })
    → (range : ℕ × ℕ) × P source range × Replaces old new t true (IsPartAt source range)
trimmed-put old new t text source left P within is part put =
    let of_source = subst (λ (handle : Handle). (range : ℕ × ℕ) × P handle range × IsPartAt handle range left) is part in
    (of_source.0, of_source.1, placed old new t true left (IsPartAt source of_source.0) within put of_source.2)

-- the two parts of the source that were put, one after the other
pub parted-put : (old mid new : List SlotState) (t u : ℕ) (text source front back : Handle) (parts : Handle → Option ((ℕ × ℕ) × (ℕ × ℕ))) {E : Type 0} (result : Result (Option (Handle × Handle)) E)
    → t < length old → u < length old → text ≡ source → result ≡ Ok (Some (front, back)) → PartsIfAny (λ part. part) (parts text) text result
    → mid ≡ slice_set old t (record { is_text = true; handle = front }) → new ≡ slice_set mid u (record { is_text = true; handle = back })
    → MatchOption (parts source) ⊥ (λ ranges. (between : List SlotState) × Replaces old between t true (IsPartAt source ranges.0) × Replaces between new u true (IsPartAt source ranges.1))
parted-put old mid new t u text source front back parts {E} result within_t within_u is made answers put put_2 =
    by-parts (parts source) (subst (λ (handle : Handle). PartsIfAny (λ part. part) (parts handle) handle (let r : Result (Option (Handle × Handle)) E = Ok (Some (front, back)) in r)) is (subst (λ (r : Result (Option (Handle × Handle)) E). PartsIfAny (λ part. part) (parts text) text r) made answers)) where
      by-parts : (ranges : Option ((ℕ × ℕ) × (ℕ × ℕ))) → PartsIfAny (λ part. part) ranges source (let r : Result (Option (Handle × Handle)) E = Ok (Some (front, back)) in r)
          → MatchOption ranges ⊥ (λ ranges. (between : List SlotState) × Replaces old between t true (IsPartAt source ranges.0) × Replaces between new u true (IsPartAt source ranges.1))
      by-parts None never = absurd (search rules)
      by-parts (Some ranges) both =
          let within : u < length mid = omega (arith, ap (λ (l : List SlotState). length l) put, length-set old t (record { is_text = true; handle = front })) in
          (mid, placed old mid t true front (IsPartAt source ranges.0) within_t put both.0, placed mid new u true back (IsPartAt source ranges.1) within put_2 both.1)

-- a source that was repeated, and put
pub repeat-step : (shares : Bool) (old new : List SlotState) (s t n : ℕ) (was made : SlotState) → slot_fault old s ≡ None → slot_fault old t ≡ None → t < length old → was ≡ state_at old s
    → new ≡ slice_set old t made → made.is_text ≡ was.is_text → RepeatAnswers was.handle n (Ok made.handle) → Step shares old (Repeat s t n) Done new
repeat-step shares old new s t n was made there_s there_t within is put flag answers =
    let at = subst (λ (slot : SlotState). RepeatAnswers slot.handle n (Ok made.handle)) is answers in
    let fits : length_fault (n * length (slot_at old s).items) ≡ None = ap (λ b. if b then None else Some TooLong) (lt-ltb _ _ at.1) in
    performed shares old (Repeat s t n) Done new (neither _ _ there_s (neither _ _ there_t fits)) (replaced old new t made _ _ within put (flag ∙ ap (λ (slot : SlotState). slot.is_text) is) at.0)

-- the slot that is read at a position, where there is one
pub slot-read : {B S P : Type 0} (items : List (Slot B S P)) (slots : List SlotState) (i : ℕ) (result : Option (Bor (Slot B S P))) → map state_of items ≡ slots → IsItemAt items i result
    → IfSome result (λ slot. state_of slot.now ≡ state_at slots i)
slot-read items slots i None view at = tt
slot-read items slots i (Some slot) view at =
    state-there items slots i slot.now view (omega (arith, ltb-true _ _ (sym at.0), length-map items state_of, ap length view)) at.1

pub slot-found : {B S P : Type 0} (items : List (Slot B S P)) (slots : List SlotState) (i : ℕ) (result : Option (Bor (Slot B S P))) → map state_of items ≡ slots → IsItemAt items i result
    → IsSome result ↔ (i < length slots)
slot-found items slots i result view at =
    let same : length items ≡ length slots = sym (length-map items state_of) ∙ ap length view in
    let is = at.0 ∙ ap (λ n. ltb i n) same in
    (λ some. ltb-true i (length slots) (sym is ∙ some), λ within. is ∙ lt-ltb i (length slots) within)

-- the faults of a repeat whose slots are there
repeat-fault : (old : List SlotState) (s t n : ℕ) (first : Option Reason) → slot_fault old s ≡ None → slot_fault old t ≡ None → length_fault (n * length (slot_at old s).items) ≡ first → fault_of old (Repeat s t n) ≡ first
repeat-fault old s t n first there_s there_t is =
    let len = length_fault (n * length (slot_at old s).items) in
    ap (λ (fault : Option Reason). option_or fault (option_or (slot_fault old t) len)) there_s ∙ ap (λ (fault : Option Reason). option_or fault len) there_t ∙ is

pub short-enough : (n : ℕ) → n < 2 ^ 64 → length_fault n ≡ None
short-enough n within = ap (λ b. if b then None else Some TooLong) (lt-ltb n (2 ^ 64) within)

pub too-long : (n : ℕ) → 2 ^ 64 ≤ n → length_fault n ≡ Some TooLong
too-long n past = ap (λ b. if b then None else Some TooLong) (le-ltb n (2 ^ 64) past)

-- a repeat that was refused, for its length or for memory
pub repeat-refused : (shares : Bool) (old new : List SlotState) (s t n : ℕ) (was : SlotState) (fault : GrowFault) (answer : Answer) → slot_fault old s ≡ None → slot_fault old t ≡ None → was ≡ state_at old s → new ≡ old
    → answer ≡ Refused (grow_reason_of fault) → RepeatAnswers was.handle n (Err fault) → Step shares old (Repeat s t n) answer new
repeat-refused shares old new s t n was fault answer there_s there_t is same told answers =
    subst (λ (answer : Answer). Step shares old (Repeat s t n) answer new) (sym told) (by-fault fault (subst (λ (slot : SlotState). RepeatAnswers slot.handle n (Err fault)) is answers)) where
      by-fault : (fault : GrowFault) → RepeatAnswers (slot_at old s) n (Err fault) → Step shares old (Repeat s t n) (Refused (grow_reason_of fault)) new
      by-fault grow_memory at = performed shares old (Repeat s t n) (Refused Memory) new (repeat-fault old s t n None there_s there_t (short-enough _ at.1)) (at.0, same)
      by-fault grow_too_long at = faulted shares old new (Repeat s t n) TooLong (repeat-fault old s t n (Some TooLong) there_s there_t (too-long _ at)) same

-- the cost of a repeat
pub repeat-counted : (shares : Bool) (old : List SlotState) (s t n : ℕ) (was : SlotState) (result : Result Handle GrowFault) (before after : ℕ) → slot_fault old s ≡ None → slot_fault old t ≡ None → was ≡ state_at old s
    → RepeatAnswers was.handle n result → RisesAtMost before after (repeat_cost shares was.handle.kind (length was.handle.items) n) → (result ≡ Err grow_too_long → after ≡ before)
    → RisesAtMost before after (cost_of shares old (Repeat s t n))
repeat-counted shares old s t n was result before after there_s there_t is answers rises none = by-result result (subst (λ (slot : SlotState). RepeatAnswers slot.handle n result) is answers) none where
  cost : ℕ
  cost = repeat_cost shares (slot_at old s).kind (length (slot_at old s).items) n

  by-fault : (fault : Option Reason) → length_fault (n * length (slot_at old s).items) ≡ fault → RisesAtMost before after (unless fault cost) → RisesAtMost before after (cost_of shares old (Repeat s t n))
  by-fault fault same counts = subst (λ (fault : Option Reason). RisesAtMost before after (unless fault cost)) (sym (repeat-fault old s t n fault there_s there_t same)) counts

  there : RisesAtMost before after cost
  there = subst (λ (slot : SlotState). RisesAtMost before after (repeat_cost shares slot.handle.kind (length slot.handle.items) n)) is rises

  by-result : (result : Result Handle GrowFault) → RepeatAnswers (slot_at old s) n result → (result ≡ Err grow_too_long → after ≡ before) → RisesAtMost before after (cost_of shares old (Repeat s t n))
  by-result (Ok handle) at none = by-fault None (short-enough _ at.1) there
  by-result (Err grow_memory) at none = by-fault None (short-enough _ at.1) there
  by-result (Err grow_too_long) at none = by-fault (Some TooLong) (too-long _ at) (record { never_falls = omega (arith, none refl); at_most = omega (arith, none refl) })
