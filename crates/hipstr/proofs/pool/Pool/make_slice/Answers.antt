use Rattle.std.proofs.Common.{◌∙◌, ap, false, true, refl, rules, slice_set, subst, sym}
use Rattle.hip_bytes.specs.Meter.{RisesAtLeast, RisesAtMost}
use Rattle.hipstr.proofs.Counts.{part-counts, refused-counts}
use Rattle.hipstr.specs.Reason.{bytes_refusal, text_refusal}
use Rattle.hipstr.proofs.Slices.{Slices, bytes-counted, bytes-sliced, bytes-unsliced, text-counted, text-sliced, text-unsliced}
use Rattle.hipstr.specs.{Slot.SlotState, Slot.state_of, Step.cost_of, Step.counts_of, declared.command.Command.TheVariants.Slice, declared.command.Answer.TheVariants.Done}
use Rattle.hipstr.proofs.pool.Pool.make_slice.Goals.{in-Bytes+in_ok-try_slice_bounds_metered-in-Bytes, in-Text+in_ok-try_slice_bounds_metered-in-Text}
use Rattle.hipstr.proofs.pool.Pool.make_slice.Goals as goal

pub returns-in_err-try_slice_bounds_metered-in-Bytes : goal.returns-in_err-try_slice_bounds_metered-in-Bytes
returns-in_err-try_slice_bounds_metered-in-Bytes g c =
    let at : Slices c.args.self.now c.args.s c.args.t (record { is_text = false; handle = c.in-Bytes.bytes }) = record { source = c.in_ok-source.ensures.found; target = c.in_ok-find.ensures.found; is = sym (ap state_of c.in-Bytes.is) ∙ c.in_ok-source.ensures.slot } in
    record {
      step = bytes-unsliced g.B.Backend.SHARES c.args.low c.args.high at c.in_err-try_slice_bounds_metered-in-Bytes.field-0.0 _ c.args.self.now (search rules) c.in_err-try_slice_bounds_metered-in-Bytes.ensures.slice refl;
      counted = bytes-counted g.B.Backend.SHARES c.args.low c.args.high at _ _ c.in_err-try_slice_bounds_metered-in-Bytes.ensures.counted;
      copied = refused-counts (λ answer. counts_of g.B.Backend.SHARES c.args.self.now (Slice c.args.s c.args.t c.args.low c.args.high) answer c.args.self.now) _ (bytes_refusal c.in_err-try_slice_bounds_metered-in-Bytes.field-0.0) refl (search rules) c.in_err-try_slice_bounds_metered-in-Bytes.ensures.counted;
    }

pub returns-in_err-try_slice_bounds_metered-in-Text : goal.returns-in_err-try_slice_bounds_metered-in-Text
returns-in_err-try_slice_bounds_metered-in-Text g c =
    let at : Slices c.args.self.now c.args.s c.args.t (record { is_text = true; handle = c.in-Text.text }) = record { source = c.in_ok-source.ensures.found; target = c.in_ok-find.ensures.found; is = sym (ap state_of c.in-Text.is) ∙ c.in_ok-source.ensures.slot } in
    record {
      step = text-unsliced g.B.Backend.SHARES c.args.low c.args.high at c.in_err-try_slice_bounds_metered-in-Text.field-0.0 _ c.args.self.now (search rules) c.in_err-try_slice_bounds_metered-in-Text.ensures.slice refl;
      counted = text-counted g.B.Backend.SHARES c.args.low c.args.high at _ _ c.in_err-try_slice_bounds_metered-in-Text.ensures.counted;
      copied = refused-counts (λ answer. counts_of g.B.Backend.SHARES c.args.self.now (Slice c.args.s c.args.t c.args.low c.args.high) answer c.args.self.now) _ (text_refusal c.in_err-try_slice_bounds_metered-in-Text.field-0.0) refl (search rules) c.in_err-try_slice_bounds_metered-in-Text.ensures.counted;
    }

pub returns : goal.returns
returns g c = elim c.match-source.branch [
  | in-Bytes+in_ok-try_slice_bounds_metered-in-Bytes w ↦
      let at : Slices c.args.self.now c.args.s c.args.t (record { is_text = false; handle = w.in-Bytes.bytes }) = record { source = c.in_ok-source.ensures.found; target = c.in_ok-find.ensures.found; is = sym (ap state_of w.in-Bytes.is) ∙ c.in_ok-source.ensures.slot } in
      record {
        step = bytes-sliced g.B.Backend.SHARES c.args.low c.args.high at w.in_ok-try_slice_bounds_metered-in-Bytes.field-0 c.put.new.self c.in_ok-find.ensures.within (◌∙◌ {b = slice_set c.args.self.now c.args.t (state_of c.match-source.made)} c.put.ensures (ap (λ m. slice_set c.args.self.now c.args.t (state_of m)) w.made-is)) w.in_ok-try_slice_bounds_metered-in-Bytes.ensures.slice;
        counted = subst (λ n. RisesAtMost c.args.meter.now n (cost_of g.B.Backend.SHARES c.args.self.now (Slice c.args.s c.args.t c.args.low c.args.high))) (sym w.meter-is) (bytes-counted g.B.Backend.SHARES c.args.low c.args.high at _ _ w.in_ok-try_slice_bounds_metered-in-Bytes.ensures.counted);
        copied = subst (λ n. RisesAtLeast c.args.meter.now n (counts_of g.B.Backend.SHARES c.args.self.now (Slice c.args.s c.args.t c.args.low c.args.high) Done c.put.new.self)) (sym w.meter-is)
            (part-counts g.B.Backend.SHARES c.args.self.now c.put.new.self c.args.s c.args.t w.in-Bytes.bytes (record { is_text = false; handle = w.in_ok-try_slice_bounds_metered-in-Bytes.field-0 }) _ _ c.in_ok-find.ensures.within
            (◌∙◌ {b = slice_set c.args.self.now c.args.t (state_of c.match-source.made)} c.put.ensures (ap (λ m. slice_set c.args.self.now c.args.t (state_of m)) w.made-is)) (ap (λ (slot : SlotState). slot.handle) at.is) w.in_ok-try_slice_bounds_metered-in-Bytes.ensures.copied);
      }
  | in-Text+in_ok-try_slice_bounds_metered-in-Text w ↦
      let at : Slices c.args.self.now c.args.s c.args.t (record { is_text = true; handle = w.in-Text.text }) = record { source = c.in_ok-source.ensures.found; target = c.in_ok-find.ensures.found; is = sym (ap state_of w.in-Text.is) ∙ c.in_ok-source.ensures.slot } in
      record {
        step = text-sliced g.B.Backend.SHARES c.args.low c.args.high at w.in_ok-try_slice_bounds_metered-in-Text.field-0 c.put.new.self c.in_ok-find.ensures.within (◌∙◌ {b = slice_set c.args.self.now c.args.t (state_of c.match-source.made)} c.put.ensures (ap (λ m. slice_set c.args.self.now c.args.t (state_of m)) w.made-is)) w.in_ok-try_slice_bounds_metered-in-Text.ensures.slice;
        counted = subst (λ n. RisesAtMost c.args.meter.now n (cost_of g.B.Backend.SHARES c.args.self.now (Slice c.args.s c.args.t c.args.low c.args.high))) (sym w.meter-is) (text-counted g.B.Backend.SHARES c.args.low c.args.high at _ _ w.in_ok-try_slice_bounds_metered-in-Text.ensures.counted);
        copied = subst (λ n. RisesAtLeast c.args.meter.now n (counts_of g.B.Backend.SHARES c.args.self.now (Slice c.args.s c.args.t c.args.low c.args.high) Done c.put.new.self)) (sym w.meter-is)
            (part-counts g.B.Backend.SHARES c.args.self.now c.put.new.self c.args.s c.args.t w.in-Text.text (record { is_text = true; handle = w.in_ok-try_slice_bounds_metered-in-Text.field-0 }) _ _ c.in_ok-find.ensures.within
            (◌∙◌ {b = slice_set c.args.self.now c.args.t (state_of c.match-source.made)} c.put.ensures (ap (λ m. slice_set c.args.self.now c.args.t (state_of m)) w.made-is)) (ap (λ (slot : SlotState). slot.handle) at.is) w.in_ok-try_slice_bounds_metered-in-Text.ensures.copied);
      }
]
