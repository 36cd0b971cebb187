use Rattle.std.proofs.Common.{true, Some, ◌∙◌, ◌-◌, ℕ, ap, refl, rules, subst, sym}
use Rattle.hip_bytes.proofs.Costs.{nothing_copied}
use Rattle.hip_bytes.specs.{Handle.Handle, Cost.CutNeedsMemory}
use Rattle.hipstr.specs.{Cut.trims_one_end, Slot.slot_at, Slot.state_at, declared.command.Command.TheVariants.TrimMatches}
use Rattle.hipstr.specs.{declared.command.Answer.TheVariants.Done, declared.command.Answer.TheVariants.Refused, declared.command.Reason.TheVariants.OneEnd}
use Rattle.hipstr.specs.Step.{fault_of, not_text_fault, one_end_fault, slot_fault}
use Rattle.hipstr.specs.{Step.counts_of, declared.command.Reason.TheVariants.Memory}
use Rattle.hipstr.proofs.Counts.{part-counts, refused-counts}
use Rattle.hipstr.proofs.Places.{trimmed-put}
use Rattle.hipstr.proofs.Steps.{more-faults, first-fault, performed, neither, one-end, second-fault, told-fault, told-memory}
use Rattle.hipstr.proofs.Trims.{text_for_fault, Trimmed, fault-costs, trim-costs}
use Rattle.hipstr.proofs.pool.Pool.trim_matches.Goals as goal

pub returns-in_err-text : goal.returns-in_err-text
returns-in_err-text g c =
    let slots = c.args.self.now in
    let more = more-faults (slot_fault slots c.args.s) (slot_fault slots c.args.t) (not_text_fault (state_at slots c.args.s)) (one_end_fault (trims_one_end c.args.side c.args.pattern)) in
    let command = TrimMatches c.args.s c.args.t c.args.side c.args.pattern in
    let is = more ∙ first-fault (text_for_fault slots c.args.s c.args.t) (one_end_fault (trims_one_end c.args.side c.args.pattern)) c.in_err-text.field-0.0 c.in_err-text.ensures.fault in
    record {
      step = told-fault g.B.Backend.SHARES slots command _ c.in_err-text.field-0.0 (search rules) is;
      counted = fault-costs g.B.Backend.SHARES slots c.args.s (Trimmed c.args.side c.args.pattern) (fault_of slots command) c.in_err-text.field-0.0 c.args.meter.now is;
      copied = refused-counts (λ answer. counts_of g.B.Backend.SHARES slots command answer slots) _ c.in_err-text.field-0.0 refl (search rules) (nothing_copied c.args.meter.now 0);
    }

pub returns-then-trims_one_end : goal.returns-then-trims_one_end
returns-then-trims_one_end g c =
    let slots = c.args.self.now in
    let more = more-faults (slot_fault slots c.args.s) (slot_fault slots c.args.t) (not_text_fault (state_at slots c.args.s)) (one_end_fault (trims_one_end c.args.side c.args.pattern)) in
    let command = TrimMatches c.args.s c.args.t c.args.side c.args.pattern in
    let is = more ∙ second-fault (text_for_fault slots c.args.s c.args.t) (one_end_fault (trims_one_end c.args.side c.args.pattern)) (Some OneEnd) c.in_ok-text.ensures.found (ap one_end_fault (sym c.if-trims_one_end.ensures)) in
    record {
      step = told-fault g.B.Backend.SHARES slots command (Refused OneEnd) OneEnd refl is;
      counted = fault-costs g.B.Backend.SHARES slots c.args.s (Trimmed c.args.side c.args.pattern) (fault_of slots command) OneEnd c.args.meter.now is;
      copied = refused-counts (λ answer. counts_of g.B.Backend.SHARES slots command answer slots) (Refused OneEnd) OneEnd refl refl (nothing_copied c.args.meter.now 0);
    }

pub returns-in_err-left : goal.returns-in_err-left
returns-in_err-left g c =
    let slots = c.args.self.now in
    let more = more-faults (slot_fault slots c.args.s) (slot_fault slots c.args.t) (not_text_fault (state_at slots c.args.s)) (one_end_fault (trims_one_end c.args.side c.args.pattern)) in
    let command = TrimMatches c.args.s c.args.t c.args.side c.args.pattern in
    let none = more ∙ neither (text_for_fault slots c.args.s c.args.t) (one_end_fault (trims_one_end c.args.side c.args.pattern)) c.in_ok-text.ensures.found (one-end (trims_one_end c.args.side c.args.pattern) (sym c.if-trims_one_end.ensures)) in
    let is = c.in_ok-text.ensures.text in
    record {
      step = told-memory g.B.Backend.SHARES slots command _ (search rules) none
          (subst (λ (text : Handle). (range : ℕ × ℕ) × Trimmed c.args.side c.args.pattern text range × CutNeedsMemory text.kind (range.1 - range.0)) is c.in_err-left.ensures.trimmed, refl);
      counted = trim-costs g.B.Backend.SHARES slots c.args.s (Trimmed c.args.side c.args.pattern) (fault_of slots command) c.in_ok-text.text.now _ _ none is c.in_err-left.ensures.counted;
      copied = refused-counts (λ answer. counts_of g.B.Backend.SHARES slots command answer slots) _ Memory refl (search rules) c.in_err-left.ensures.counted.2;
    }

pub returns : goal.returns
returns g c =
    let slots = c.args.self.now in
    let more = more-faults (slot_fault slots c.args.s) (slot_fault slots c.args.t) (not_text_fault (state_at slots c.args.s)) (one_end_fault (trims_one_end c.args.side c.args.pattern)) in
    let command = TrimMatches c.args.s c.args.t c.args.side c.args.pattern in
    let none = more ∙ neither (text_for_fault slots c.args.s c.args.t) (one_end_fault (trims_one_end c.args.side c.args.pattern)) c.in_ok-text.ensures.found (one-end (trims_one_end c.args.side c.args.pattern) (sym c.if-trims_one_end.ensures)) in
    let is = c.in_ok-text.ensures.text in
    record {
      step = performed g.B.Backend.SHARES slots command Done c.put.new.self none
          (trimmed-put slots c.put.new.self c.args.t c.in_ok-text.text.now (slot_at slots c.args.s) c.in_ok-left.left (Trimmed c.args.side c.args.pattern) c.in_ok-text.ensures.within is c.in_ok-left.ensures.trimmed c.put.ensures);
      counted = trim-costs g.B.Backend.SHARES slots c.args.s (Trimmed c.args.side c.args.pattern) (fault_of slots command) c.in_ok-text.text.now _ _ none is c.in_ok-left.ensures.counted;
      copied = part-counts g.B.Backend.SHARES slots c.put.new.self c.args.s c.args.t c.in_ok-text.text.now (record { is_text = true; handle = c.in_ok-left.left }) _ _ c.in_ok-text.ensures.within c.put.ensures is c.in_ok-left.ensures.copied;
    }
