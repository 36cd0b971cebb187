use Rattle.std.proofs.Common.{◌≡◌, ◌∙◌, IfSome, Ok, Some, length, ap, refl, rules, subst, sym, true}
use Rattle.hip_bytes.proofs.Costs.{nothing_copied}
use Rattle.hip_bytes.specs.Handle.{Handle}
use Rattle.hip_cuts.specs.Cut.{PartsCount}
use Rattle.hipstr.specs.{Cut.occurrences, Cut.parted, Slot.SlotState, Slot.slot_at, declared.command.Command.TheVariants.Once}
use Rattle.hipstr.specs.Step.{counts_of, fault_of, not_text_fault, overlap_fault, slot_fault}
use Rattle.hipstr.specs.declared.command.Answer.TheVariants.{Done, Nothing, Refused}
use Rattle.hipstr.specs.declared.command.Reason.TheVariants.{Memory, NoSlot, NotText, Overlap}
use Rattle.hipstr.proofs.Counts.{counts-none, refused-counts, two-count}
use Rattle.hipstr.proofs.Places.{parted-put}
use Rattle.hipstr.proofs.Steps.{apart, first-fault, overlaps, performed, neither, second-fault, told-fault, told-memory}
use Rattle.hipstr.proofs.Trims.{once-counted, once-needs, once-none}
use Rattle.hipstr.proofs.pool.Pool.part_once.Goals as goal

pub returns-in_err-source : goal.returns-in_err-source
returns-in_err-source g c =
    let slots = c.args.self.now in
    let is = first-fault (slot_fault slots c.args.s) _ NoSlot c.in_err-source.ensures.missing in
    let command = Once c.args.s c.args.t c.args.u c.args.end c.args.pattern in
    record {
      step = told-fault g.B.Backend.SHARES slots command _ NoSlot (search rules) is;
      counted = nothing_copied c.args.meter.now _;
      copied = refused-counts (λ answer. counts_of g.B.Backend.SHARES slots command answer slots) _ NoSlot refl (search rules) (nothing_copied c.args.meter.now 0);
    }

pub returns-in_err-find : goal.returns-in_err-find
returns-in_err-find g c =
    let slots = c.args.self.now in
    let is = second-fault (slot_fault slots c.args.s) _ _ c.in_ok-source.ensures.found (first-fault (slot_fault slots c.args.t) _ NoSlot c.in_err-find.ensures.missing) in
    let command = Once c.args.s c.args.t c.args.u c.args.end c.args.pattern in
    record {
      step = told-fault g.B.Backend.SHARES slots command _ NoSlot (search rules) is;
      counted = nothing_copied c.args.meter.now _;
      copied = refused-counts (λ answer. counts_of g.B.Backend.SHARES slots command answer slots) _ NoSlot refl (search rules) (nothing_copied c.args.meter.now 0);
    }

pub returns-in_err-find-2 : goal.returns-in_err-find-2
returns-in_err-find-2 g c =
    let slots = c.args.self.now in
    let is = second-fault (slot_fault slots c.args.s) _ _ c.in_ok-source.ensures.found (second-fault (slot_fault slots c.args.t) _ _ c.in_ok-find.ensures.found (first-fault (slot_fault slots c.args.u) _ NoSlot c.in_err-find-2.ensures.missing)) in
    let command = Once c.args.s c.args.t c.args.u c.args.end c.args.pattern in
    record {
      step = told-fault g.B.Backend.SHARES slots command _ NoSlot (search rules) is;
      counted = nothing_copied c.args.meter.now _;
      copied = refused-counts (λ answer. counts_of g.B.Backend.SHARES slots command answer slots) _ NoSlot refl (search rules) (nothing_copied c.args.meter.now 0);
    }

pub returns-then-t-u : goal.returns-then-t-u
returns-then-t-u g c =
    let slots = c.args.self.now in
    let is = second-fault (slot_fault slots c.args.s) _ _ c.in_ok-source.ensures.found (second-fault (slot_fault slots c.args.t) _ _ c.in_ok-find.ensures.found (second-fault (slot_fault slots c.args.u) _ _ c.in_ok-find-2.ensures.found
    (first-fault (overlap_fault c.args.t c.args.u 1) _ Overlap (overlaps c.args.t c.args.u c.if-t-u.true)))) in
    let command = Once c.args.s c.args.t c.args.u c.args.end c.args.pattern in
    record {
      step = told-fault g.B.Backend.SHARES slots command (Refused Overlap) Overlap refl is;
      counted = nothing_copied c.args.meter.now _;
      copied = refused-counts (λ answer. counts_of g.B.Backend.SHARES slots command answer slots) (Refused Overlap) Overlap refl refl (nothing_copied c.args.meter.now 0);
    }

pub returns-in_err-text : goal.returns-in_err-text
returns-in_err-text g c =
    let slots = c.args.self.now in
    let is = second-fault (slot_fault slots c.args.s) _ _ c.in_ok-source.ensures.found (second-fault (slot_fault slots c.args.t) _ _ c.in_ok-find.ensures.found (second-fault (slot_fault slots c.args.u) _ _ c.in_ok-find-2.ensures.found
    (second-fault (overlap_fault c.args.t c.args.u 1) _ _ (apart c.args.t c.args.u c.if-t-u.false) (ap not_text_fault (sym c.in_ok-source.ensures.slot) ∙ c.in_err-text.ensures.not_text)))) in
    let command = Once c.args.s c.args.t c.args.u c.args.end c.args.pattern in
    record {
      step = told-fault g.B.Backend.SHARES slots command _ NotText (search rules) is;
      counted = nothing_copied c.args.meter.now _;
      copied = refused-counts (λ answer. counts_of g.B.Backend.SHARES slots command answer slots) _ NotText refl (search rules) (nothing_copied c.args.meter.now 0);
    }

pub returns-in_err-front : goal.returns-in_err-front
returns-in_err-front g c =
    let slots = c.args.self.now in
    let command = Once c.args.s c.args.t c.args.u c.args.end c.args.pattern in
    let slot = c.in_ok-source.ensures.slot in
    let none = neither _ _ c.in_ok-source.ensures.found (neither _ _ c.in_ok-find.ensures.found (neither _ _ c.in_ok-find-2.ensures.found
    (neither _ _ (apart c.args.t c.args.u c.if-t-u.false) (ap not_text_fault (sym slot) ∙ c.in_ok-text.ensures.found)))) in
    let is = c.in_ok-text.ensures.text ∙ ap (λ (state : SlotState). state.handle) slot in
    let ranges_of = λ (text : Handle). parted c.args.end (occurrences c.args.pattern text.items) (length text.items) in
    let counted = once-counted g.B.Backend.SHARES ranges_of c.in_ok-text.text.now (slot_at slots c.args.s) (fault_of slots command) _ _ is none c.in_err-front.ensures.counted in
    record {
      step = told-memory g.B.Backend.SHARES slots command _ (search rules) none (once-needs ranges_of c.in_ok-text.text.now (slot_at slots c.args.s) is c.in_err-front.field-0.0 c.in_err-front.ensures.parts, refl);
      counted = counted;
      copied = refused-counts (λ answer. counts_of g.B.Backend.SHARES slots command answer slots) _ Memory refl (search rules) counted;
    }

pub returns-in_default : goal.returns-in_default
returns-in_default g c =
    let slots = c.args.self.now in
    let command = Once c.args.s c.args.t c.args.u c.args.end c.args.pattern in
    let slot = c.in_ok-source.ensures.slot in
    let none = neither _ _ c.in_ok-source.ensures.found (neither _ _ c.in_ok-find.ensures.found (neither _ _ c.in_ok-find-2.ensures.found
    (neither _ _ (apart c.args.t c.args.u c.if-t-u.false) (ap not_text_fault (sym slot) ∙ c.in_ok-text.ensures.found)))) in
    let is = c.in_ok-text.ensures.text ∙ ap (λ (state : SlotState). state.handle) slot in
    let ranges_of = λ (text : Handle). parted c.args.end (occurrences c.args.pattern text.items) (length text.items) in
    let counted = once-counted g.B.Backend.SHARES ranges_of c.in_ok-text.text.now (slot_at slots c.args.s) (fault_of slots command) _ _ is none c.in_ok-front.ensures.counted in
    record {
      step = performed g.B.Backend.SHARES slots command Nothing slots none (once-none ranges_of c.in_ok-text.text.now (slot_at slots c.args.s) is c.in_ok-front.field-0 c.in_default.is c.in_ok-front.ensures.parts, refl);
      counted = counted;
      copied = counts-none counted;
    }

pub returns : goal.returns
returns g c =
    let made : c.parted.result ≡ Ok (Some (c.in-Some.front, c.in-Some.back)) = c.in_ok-front.was ∙ ap Ok c.in-Some.is in
    let slots = c.args.self.now in
    let command = Once c.args.s c.args.t c.args.u c.args.end c.args.pattern in
    let slot = c.in_ok-source.ensures.slot in
    let none = neither _ _ c.in_ok-source.ensures.found (neither _ _ c.in_ok-find.ensures.found (neither _ _ c.in_ok-find-2.ensures.found
    (neither _ _ (apart c.args.t c.args.u c.if-t-u.false) (ap not_text_fault (sym slot) ∙ c.in_ok-text.ensures.found)))) in
    let is = c.in_ok-text.ensures.text ∙ ap (λ (state : SlotState). state.handle) slot in
    let ranges_of = λ (text : Handle). parted c.args.end (occurrences c.args.pattern text.items) (length text.items) in
    record {
      step = performed g.B.Backend.SHARES slots command Done c.put-2.new.self none
          (parted-put slots c.put.new.self c.put-2.new.self c.args.t c.args.u c.in_ok-text.text.now (slot_at slots c.args.s) c.in-Some.front c.in-Some.back ranges_of c.parted.result
          c.in_ok-find.ensures.within c.in_ok-find-2.ensures.within is made c.parted.ensures.parts c.put.ensures c.put-2.ensures);
      counted = once-counted g.B.Backend.SHARES ranges_of c.in_ok-text.text.now (slot_at slots c.args.s) (fault_of slots command) _ _ is none c.parted.ensures.counted;
      copied = two-count g.B.Backend.SHARES slots c.put.new.self c.put-2.new.self c.args.s c.args.t c.args.u c.in_ok-text.text.now
          (record { is_text = true; handle = c.in-Some.front }) (record { is_text = true; handle = c.in-Some.back }) _ _
          c.in_ok-find.ensures.within c.in_ok-find-2.ensures.within c.if-t-u.false c.put.ensures c.put-2.ensures is
          (subst (λ found. IfSome found (λ parts. PartsCount g.B.Backend.SHARES c.in_ok-text.text.now parts.0 parts.1 c.args.meter.now c.parted.new.meter)) c.in-Some.is c.in_ok-front.ensures.copied);
    }
