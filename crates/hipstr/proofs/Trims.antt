-- Trims, strips and splits in two: the faults and needs of those that are refused, and the bytes that they copy. The part's `source` is the slot's handle, which is the `text` that was cut.
use Rattle.std.proofs.Common.{◌≡◌, ◌-◌, ◌<◌, inl, inr, ℕ, Bool, true, List, [], ◌∷◌, Option, Some, None, MatchOption, Result, Ok, Err, IfErr, IfOk, OnErr, OnOk, ◌∙◌, ap, length, slice_set, arith, refl, rules, subst, sym}
use Rattle.std.specs.{Borrow.Bor, Char.is_whitespace, Option.option_or, declared.alloc.AllocError.AllocError}
use Rattle.hip_bytes.proofs.Costs.{nothing_copied}
use Rattle.hip_bytes.specs.{Cost.CutNeedsMemory, Handle.Handle, Meter.RisesAtMost}
use Rattle.hip_cuts.specs.Cut.{PartIfAny, PartIfAnyCosts, PartsIfAny, PartsIfAnyCosts}
use Rattle.hip_cuts.specs.Piece.{IsPartAt, part_cost, parts_cost}
use Rattle.hip_match.specs.Characters.{char_ends}
use Rattle.hipstr.proofs.Places.{placed}
use Rattle.hipstr.proofs.Steps.{neither, second-fault, unfaulted}
use Rattle.hipstr.specs.Cut.{Leaves, SomeNeedsMemory, occurrences}
use Rattle.hipstr.specs.Slot.{Replaces, SlotState, slot_at, state_at}
use Rattle.hipstr.specs.Step.{not_text_fault, option_cost, slot_fault, unless}
use Rattle.hipstr.specs.{declared.command.Pat.Pat, declared.command.Reason.Reason, declared.command.Reason.TheVariants.NotText, declared.command.Side.Side}

-- the fault of a source or a target that isn't there, or of a source that is no text
abbrev pub text_for_fault : List SlotState → ℕ → ℕ → Option Reason
text_for_fault slots s t = option_or (slot_fault slots s) (option_or (slot_fault slots t) (not_text_fault (state_at slots s)))

-- the reason for which a text is refused; one that is given has `NotText` here
abbrev refused_with : Result (Bor Handle) Reason → Reason
refused_with (Ok text) = NotText
refused_with (Err reason) = reason

-- the text of a source that is there, or the fault that it is no text
pub text-for : (slots : List SlotState) (s t : ℕ) (was : SlotState) (result : Result (Bor Handle) Reason) → was ≡ state_at slots s → slot_fault slots s ≡ None → slot_fault slots t ≡ None → t < length slots
    → IfOk result (λ text. text.now ≡ was.handle) → OnOk result (not_text_fault was ≡ None) → OnErr result (not_text_fault was ≡ Some NotText) → OnErr result (result ≡ Err NotText)
    → IfOk result (λ text. text.now ≡ slot_at slots s) × OnOk result (t < length slots) × OnOk result (text_for_fault slots s t ≡ None) × IfErr result (λ reason. text_for_fault slots s t ≡ Some reason)
text-for slots s t was (Ok text) is there_s there_t within text_is found not_text reason_is =
    (text_is ∙ ap (λ (slot : SlotState). slot.handle) is, within, neither _ _ there_s (neither _ _ there_t (ap not_text_fault (sym is) ∙ found)), tt)
text-for slots s t was (Err reason) is there_s there_t within text_is found not_text reason_is = (
  tt,
  tt,
  tt,
  second-fault (slot_fault slots s) _ _ there_s (second-fault (slot_fault slots t) _ _ there_t
      (ap not_text_fault (sym is) ∙ not_text ∙ sym (ap (λ (r : Result (Bor Handle) Reason). Some (refused_with r)) reason_is))),
)

-- the ranges that a trim of a pattern may leave of a text
abbrev pub Trimmed : Side → Pat → Handle → ℕ × ℕ → Type 0
Trimmed side pattern text range = Leaves side (occurrences pattern text.items) (length text.items) range

-- the ranges that a trim of white space may leave
abbrev pub Spaces : Side → Handle → ℕ × ℕ → Type 0
Spaces side text range = Leaves side (char_ends is_whitespace text.items) (length text.items) range

-- `Range` says which ranges the trim may leave of a text
module _ (shares : Bool) (slots : List SlotState) (s : ℕ) (Range : Handle → ℕ × ℕ → Type 0) (fault : Option Reason) where
  abbrev TrimCosts : ℕ → Type 0
  TrimCosts cost = MatchOption fault ((range : ℕ × ℕ) × Range (slot_at slots s) range × (cost ≡ part_cost shares (slot_at slots s) range)) (λ reason. cost ≡ 0)

  pub fault-costs : (reason : Reason) (n : ℕ) → fault ≡ Some reason → (cost : ℕ) × TrimCosts cost × RisesAtMost n n cost
  fault-costs reason n is =
      (0, subst (λ (first : Option Reason). MatchOption first ((range : ℕ × ℕ) × Range (slot_at slots s) range × (0 ≡ part_cost shares (slot_at slots s) range)) (λ reason. (let zero : ℕ = 0 in zero) ≡ 0)) (sym is) refl, nothing_copied n 0)

  pub trim-costs : (text : Handle) (m n : ℕ) → fault ≡ None → text ≡ slot_at slots s → (range : ℕ × ℕ) × Range text range × RisesAtMost m n (part_cost shares text range) → (cost : ℕ) × TrimCosts cost × RisesAtMost m n cost
  trim-costs text m n none is costs =
      let at = subst (λ (text : Handle). (range : ℕ × ℕ) × Range text range × RisesAtMost m n (part_cost shares text range)) is costs in
      let cost = part_cost shares (slot_at slots s) at.0 in
      (cost, subst (λ (first : Option Reason). MatchOption first ((range : ℕ × ℕ) × Range (slot_at slots s) range × (cost ≡ part_cost shares (slot_at slots s) range)) (λ reason. cost ≡ 0)) (sym none) (at.0, at.1, refl), at.2)

-- a strip: the range that it leaves of a text, if any
module _ (range_of : Handle → Option (ℕ × ℕ)) (text source : Handle) (is : text ≡ source) where
  pub strip-none : (left : Option Handle) → left ≡ None → PartIfAny {T = Handle} {E = AllocError} (λ part. part) (range_of text) text (Ok left) → range_of source ≡ None
  strip-none left lacks part =
      by-range (range_of source) (subst (λ (handle : Handle). PartIfAny (λ part. part) (range_of handle) handle (let r : Result (Option Handle) AllocError = Ok None in r)) is
      (subst (λ (left : Option Handle). PartIfAny {T = Handle} {E = AllocError} (λ part. part) (range_of text) text (Ok left)) lacks part)) where
        by-range : (range : Option (ℕ × ℕ)) → PartIfAny (λ part. part) range source (let r : Result (Option Handle) AllocError = Ok None in r) → range ≡ None
        by-range None same = refl
        by-range (Some range) never = absurd never

  pub strip-needs : (error : AllocError) → PartIfAny {T = Handle} {E = AllocError} (λ part. part) (range_of text) text (Err error) → MatchOption (range_of source) ⊥ (λ range. CutNeedsMemory source.kind (range.1 - range.0))
  strip-needs error needs = by-range (range_of source) (subst (λ (handle : Handle). PartIfAny {T = Handle} {E = AllocError} (λ part. part) (range_of handle) handle (Err error)) is needs) where
    by-range : (range : Option (ℕ × ℕ)) → PartIfAny {T = Handle} {E = AllocError} (λ part. part) range source (Err error) → MatchOption range ⊥ (λ range. CutNeedsMemory source.kind (range.1 - range.0))
    by-range None never = absurd (search rules)
    by-range (Some range) needs = needs

  pub strip-put : (old new : List SlotState) (t : ℕ) (left : Option Handle) (part : Handle) → t < length old → left ≡ Some part → PartIfAny {T = Handle} {E = AllocError} (λ part. part) (range_of text) text (Ok left)
      → new ≡ slice_set old t (record { is_text = true; handle = part }) → MatchOption (range_of source) ⊥ (λ range. Replaces old new t true (IsPartAt source range))
  strip-put old new t left part within made answers put =
      by-range (range_of source) (subst (λ (handle : Handle). PartIfAny (λ part. part) (range_of handle) handle (let r : Result (Option Handle) AllocError = Ok (Some part) in r)) is
      (subst (λ (left : Option Handle). PartIfAny {T = Handle} {E = AllocError} (λ part. part) (range_of text) text (Ok left)) made answers)) where
        by-range : (range : Option (ℕ × ℕ)) → PartIfAny (λ part. part) range source (let r : Result (Option Handle) AllocError = Ok (Some part) in r) → MatchOption range ⊥ (λ range. Replaces old new t true (IsPartAt source range))
        by-range None never = absurd (search rules)
        by-range (Some range) at = placed old new t true part (IsPartAt source range) within put at

pub strip-counted : (shares : Bool) (range_of : Handle → Option (ℕ × ℕ)) (text source : Handle) (fault : Option Reason) (m n : ℕ) → text ≡ source → fault ≡ None → PartIfAnyCosts shares (range_of text) text m n
    → RisesAtMost m n (unless fault (option_cost (part_cost shares source) (range_of source)))
strip-counted shares range_of text source fault m n is none costs =
    unfaulted fault m n _ none (by-range (range_of source) (subst (λ (handle : Handle). PartIfAnyCosts shares (range_of handle) handle m n) is costs)) where
      by-range : (range : Option (ℕ × ℕ)) → PartIfAnyCosts shares range source m n → RisesAtMost m n (option_cost (part_cost shares source) range)
      by-range None same = record { never_falls = omega (arith, same); at_most = omega (arith, same) }
      by-range (Some range) rises = rises

-- a split in two: the ranges of the parts, if any
module _ (ranges_of : Handle → Option ((ℕ × ℕ) × (ℕ × ℕ))) (text source : Handle) (is : text ≡ source) where
  pub once-none : (parts : Option (Handle × Handle)) → parts ≡ None → PartsIfAny {T = Handle} {E = AllocError} (λ part. part) (ranges_of text) text (Ok parts) → ranges_of source ≡ None
  once-none parts lacks answers =
      by-ranges (ranges_of source) (subst (λ (handle : Handle). PartsIfAny (λ part. part) (ranges_of handle) handle (let r : Result (Option (Handle × Handle)) AllocError = Ok None in r)) is
      (subst (λ (parts : Option (Handle × Handle)). PartsIfAny {T = Handle} {E = AllocError} (λ part. part) (ranges_of text) text (Ok parts)) lacks answers)) where
        by-ranges : (ranges : Option ((ℕ × ℕ) × (ℕ × ℕ))) → PartsIfAny (λ part. part) ranges source (let r : Result (Option (Handle × Handle)) AllocError = Ok None in r) → ranges ≡ None
        by-ranges None same = refl
        by-ranges (Some ranges) never = absurd never

  pub once-needs : (error : AllocError) → PartsIfAny {T = Handle} {E = AllocError} (λ part. part) (ranges_of text) text (Err error) → MatchOption (ranges_of source) ⊥ (λ ranges. SomeNeedsMemory source.kind (ranges.0 ∷ ranges.1 ∷ []))
  once-needs error needs = by-ranges (ranges_of source) (subst (λ (handle : Handle). PartsIfAny {T = Handle} {E = AllocError} (λ part. part) (ranges_of handle) handle (Err error)) is needs) where
    by-ranges : (ranges : Option ((ℕ × ℕ) × (ℕ × ℕ))) → PartsIfAny {T = Handle} {E = AllocError} (λ part. part) ranges source (Err error) → MatchOption ranges ⊥ (λ ranges. SomeNeedsMemory source.kind (ranges.0 ∷ ranges.1 ∷ []))
    by-ranges None never = absurd (search rules)
    by-ranges (Some ranges) (inl front) = inl front
    by-ranges (Some ranges) (inr back) = inr (inl back)

pub once-counted : (shares : Bool) (ranges_of : Handle → Option ((ℕ × ℕ) × (ℕ × ℕ))) (text source : Handle) (fault : Option Reason) (m n : ℕ) → text ≡ source → fault ≡ None → PartsIfAnyCosts shares (ranges_of text) text m n
    → RisesAtMost m n (unless fault (option_cost (λ parts. parts_cost shares source (parts.0 ∷ parts.1 ∷ [])) (ranges_of source)))
once-counted shares ranges_of text source fault m n is none costs =
    unfaulted fault m n _ none (by-ranges (ranges_of source) (subst (λ (handle : Handle). PartsIfAnyCosts shares (ranges_of handle) handle m n) is costs)) where
      by-ranges : (ranges : Option ((ℕ × ℕ) × (ℕ × ℕ))) → PartsIfAnyCosts shares ranges source m n → RisesAtMost m n (option_cost (λ parts. parts_cost shares source (parts.0 ∷ parts.1 ∷ [])) ranges)
      by-ranges None same = record { never_falls = omega (arith, same); at_most = omega (arith, same) }
      by-ranges (Some ranges) rises = record { never_falls = rises.never_falls; at_most = omega (arith, rises.at_most) }
