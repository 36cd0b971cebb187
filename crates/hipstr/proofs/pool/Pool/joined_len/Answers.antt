use Rattle.std.proofs.Common.{◌∙◌, length, ap, refl, arith}
use Rattle.hipstr.specs.Slot.{SlotState}
use Rattle.hipstr.proofs.Joins.{length-next, next-fits, gap-fits}
use Rattle.hipstr.proofs.pool.Pool.joined_len.Goals as goal

pub loop-i-preserved : goal.loop-i-preserved
loop-i-preserved g c = record {
  len = length-next c.args.self.now c.args.first c.loop-i.i c.args.sep.now c.as_bytes.result.now c.loop-i.len c.gap_len.result (length c.as_bytes.result.now) c.in_ok-checked_add.field-0 c.in_ok-len.len
      (omega arith) c.loop-i.invariant.len c.gap_len.ensures (c.as_bytes.ensures.items ∙ ap (λ (slot : SlotState). slot.handle.items) c.at.ensures) refl c.in_ok-checked_add.ensures.1 c.in_ok-len.ensures.1;
  fits = omega (arith, c.in_ok-len.ensures.0, c.in_ok-len.ensures.1);
}

pub returns-in_err-checked_add : goal.returns-in_err-checked_add
returns-in_err-checked_add g c =
    let fits = gap-fits c.args.self.now c.args.first c.loop-i.i c.args.count c.args.sep.now c.loop-i.len c.gap_len.result c.requires.within c.loop-i-test.true c.loop-i.invariant.len c.gap_len.ensures in
    rw c.from_residual.ensures (λ h. c.in_err-checked_add.ensures (omega arith))

pub returns-in_err-len : goal.returns-in_err-len
returns-in_err-len g c =
    let fits = next-fits c.args.self.now c.args.first c.loop-i.i c.args.count c.args.sep.now c.as_bytes.result.now c.loop-i.len c.gap_len.result (length c.as_bytes.result.now)
    c.requires.within c.loop-i-test.true c.loop-i.invariant.len c.gap_len.ensures (c.as_bytes.ensures.items ∙ ap (λ (slot : SlotState). slot.handle.items) c.at.ensures) refl in
    rw c.from_residual-in_err-len.ensures (λ h. c.in_err-len.ensures (omega (arith, c.in_ok-checked_add.ensures.1)))
