use Rattle.std.proofs.Common.{IfSome, length, refl, rules, subst, true}
use Rattle.hip_bytes.proofs.Costs.{nothing_copied}
use Rattle.hip_bytes.specs.{Cost.PartCounts, Handle.Handle}
use Rattle.hipstr.specs.{Cut.occurrences, Cut.stripped, Slot.slot_at, Step.counts_of, Step.fault_of, declared.command.Command.TheVariants.Strip}
use Rattle.hipstr.specs.{declared.command.Answer.TheVariants.Done, declared.command.Answer.TheVariants.Nothing, declared.command.Reason.TheVariants.Memory}
use Rattle.hipstr.proofs.Counts.{counts-none, part-counts, refused-counts}
use Rattle.hipstr.proofs.Steps.{performed, told-fault, told-memory}
use Rattle.hipstr.proofs.Trims.{strip-counted, strip-needs, strip-none, strip-put}
use Rattle.hipstr.proofs.pool.Pool.strip.Goals as goal

pub returns-in_err-text : goal.returns-in_err-text
returns-in_err-text g c =
    let slots = c.args.self.now in
    let command = Strip c.args.s c.args.t c.args.end c.args.pattern in
    record {
      step = told-fault g.B.Backend.SHARES slots command _ c.in_err-text.field-0.0 (search rules) c.in_err-text.ensures.fault;
      counted = nothing_copied c.args.meter.now _;
      copied = refused-counts (λ answer. counts_of g.B.Backend.SHARES slots command answer slots) _ c.in_err-text.field-0.0 refl (search rules) (nothing_copied c.args.meter.now 0);
    }

pub returns-in_err-left : goal.returns-in_err-left
returns-in_err-left g c =
    let slots = c.args.self.now in
    let command = Strip c.args.s c.args.t c.args.end c.args.pattern in
    let none = c.in_ok-text.ensures.found in
    let is = c.in_ok-text.ensures.text in
    let range_of = λ (text : Handle). stripped c.args.end (occurrences c.args.pattern text.items) (length text.items) in
    let counted = strip-counted g.B.Backend.SHARES range_of c.in_ok-text.text.now (slot_at slots c.args.s) (fault_of slots command) _ _ is none c.in_err-left.ensures.counted in
    record {
      step = told-memory g.B.Backend.SHARES slots command _ (search rules) none (strip-needs range_of c.in_ok-text.text.now (slot_at slots c.args.s) is c.in_err-left.field-0.0 c.in_err-left.ensures.stripped, refl);
      counted = counted;
      copied = refused-counts (λ answer. counts_of g.B.Backend.SHARES slots command answer slots) _ Memory refl (search rules) counted;
    }

pub returns-in_default : goal.returns-in_default
returns-in_default g c =
    let slots = c.args.self.now in
    let command = Strip c.args.s c.args.t c.args.end c.args.pattern in
    let none = c.in_ok-text.ensures.found in
    let is = c.in_ok-text.ensures.text in
    let range_of = λ (text : Handle). stripped c.args.end (occurrences c.args.pattern text.items) (length text.items) in
    let counted = strip-counted g.B.Backend.SHARES range_of c.in_ok-text.text.now (slot_at slots c.args.s) (fault_of slots command) _ _ is none c.in_ok-left.ensures.counted in
    record {
      step = performed g.B.Backend.SHARES slots command Nothing slots none (strip-none range_of c.in_ok-text.text.now (slot_at slots c.args.s) is c.in_ok-left.field-0 c.in_default.is c.in_ok-left.ensures.stripped, refl);
      counted = counted;
      copied = counts-none counted;
    }

pub returns : goal.returns
returns g c =
    let slots = c.args.self.now in
    let command = Strip c.args.s c.args.t c.args.end c.args.pattern in
    let none = c.in_ok-text.ensures.found in
    let is = c.in_ok-text.ensures.text in
    let range_of = λ (text : Handle). stripped c.args.end (occurrences c.args.pattern text.items) (length text.items) in
    record {
      step = performed g.B.Backend.SHARES slots command Done c.put.new.self none
          (strip-put range_of c.in_ok-text.text.now (slot_at slots c.args.s) is slots c.put.new.self c.args.t c.in_ok-left.field-0 c.in-Some.left c.in_ok-text.ensures.within c.in-Some.is c.in_ok-left.ensures.stripped c.put.ensures);
      counted = strip-counted g.B.Backend.SHARES range_of c.in_ok-text.text.now (slot_at slots c.args.s) (fault_of slots command) _ _ is none c.in_ok-left.ensures.counted;
      copied = part-counts g.B.Backend.SHARES slots c.put.new.self c.args.s c.args.t c.in_ok-text.text.now (record { is_text = true; handle = c.in-Some.left }) _ _ c.in_ok-text.ensures.within c.put.ensures is
          (subst (λ found. IfSome found (λ part. PartCounts g.B.Backend.SHARES c.in_ok-text.text.now part c.args.meter.now c.stripped.new.meter)) c.in-Some.is c.in_ok-left.ensures.copied);
    }
