use Rattle.std.proofs.Common.{true, ◌-◌, ℕ, refl, rules, subst}
use Rattle.hip_bytes.proofs.Costs.{nothing_copied}
use Rattle.hip_bytes.specs.{Handle.Handle, Cost.CutNeedsMemory}
use Rattle.hipstr.specs.{Slot.slot_at, Step.fault_of, declared.command.Command.TheVariants.Trim, declared.command.Answer.TheVariants.Done}
use Rattle.hipstr.specs.{Step.counts_of, declared.command.Reason.TheVariants.Memory}
use Rattle.hipstr.proofs.Counts.{part-counts, refused-counts}
use Rattle.hipstr.proofs.Places.{trimmed-put}
use Rattle.hipstr.proofs.Steps.{performed, told-fault, told-memory}
use Rattle.hipstr.proofs.Trims.{Spaces, fault-costs, trim-costs}
use Rattle.hipstr.proofs.pool.Pool.trim.Goals as goal

pub returns-in_err-text : goal.returns-in_err-text
returns-in_err-text g c =
    let slots = c.args.self.now in
    let command = Trim c.args.s c.args.t c.args.side in
    record {
      step = told-fault g.B.Backend.SHARES slots command _ c.in_err-text.field-0.0 (search rules) c.in_err-text.ensures.fault;
      counted = fault-costs g.B.Backend.SHARES slots c.args.s (Spaces c.args.side) (fault_of slots command) c.in_err-text.field-0.0 c.args.meter.now c.in_err-text.ensures.fault;
      copied = refused-counts (λ answer. counts_of g.B.Backend.SHARES slots command answer slots) _ c.in_err-text.field-0.0 refl (search rules) (nothing_copied c.args.meter.now 0);
    }

pub returns-in_err-left : goal.returns-in_err-left
returns-in_err-left g c =
    let slots = c.args.self.now in
    let command = Trim c.args.s c.args.t c.args.side in
    let none = c.in_ok-text.ensures.found in
    let is = c.in_ok-text.ensures.text in
    record {
      step = told-memory g.B.Backend.SHARES slots command _ (search rules) none
          (subst (λ (text : Handle). (range : ℕ × ℕ) × Spaces c.args.side text range × CutNeedsMemory text.kind (range.1 - range.0)) is c.in_err-left.ensures.trimmed, refl);
      counted = trim-costs g.B.Backend.SHARES slots c.args.s (Spaces c.args.side) (fault_of slots command) c.in_ok-text.text.now _ _ none is c.in_err-left.ensures.counted;
      copied = refused-counts (λ answer. counts_of g.B.Backend.SHARES slots command answer slots) _ Memory refl (search rules) c.in_err-left.ensures.counted.2;
    }

pub returns : goal.returns
returns g c =
    let slots = c.args.self.now in
    let command = Trim c.args.s c.args.t c.args.side in
    let none = c.in_ok-text.ensures.found in
    let is = c.in_ok-text.ensures.text in
    record {
      step = performed g.B.Backend.SHARES slots command Done c.put.new.self none
          (trimmed-put slots c.put.new.self c.args.t c.in_ok-text.text.now (slot_at slots c.args.s) c.in_ok-left.left (Spaces c.args.side) c.in_ok-text.ensures.within is c.in_ok-left.ensures.trimmed c.put.ensures);
      counted = trim-costs g.B.Backend.SHARES slots c.args.s (Spaces c.args.side) (fault_of slots command) c.in_ok-text.text.now _ _ none is c.in_ok-left.ensures.counted;
      copied = part-counts g.B.Backend.SHARES slots c.put.new.self c.args.s c.args.t c.in_ok-text.text.now (record { is_text = true; handle = c.in_ok-left.left }) _ _ c.in_ok-text.ensures.within c.put.ensures is c.in_ok-left.ensures.copied;
    }
