use Rattle.std.proofs.Common.{◌∙◌, ap, refl, rules, slice_set, subst, sym}
use Rattle.hip_bytes.specs.Meter.{RisesAtLeast, RisesAtMost}
use Rattle.hipstr.specs.{Step.cost_of, Step.counts_of, declared.command.Command.TheVariants.Repeat, declared.command.Answer.TheVariants.Done, Reason.grow_reason_of, Slot.state_of}
use Rattle.hipstr.proofs.{Counts.refused-counts, Counts.repeat-counts, Places.repeat-counted, Places.repeat-refused, Places.repeat-step}
use Rattle.hipstr.proofs.pool.Pool.make_repeat.Goals.{in-Bytes+in_ok-repeat_metered-in-Bytes, in-Text+in_ok-repeat_metered-in-Text}
use Rattle.hipstr.proofs.pool.Pool.make_repeat.Goals as goal

pub returns-clause-step : goal.returns-clause-step
returns-clause-step g c = elim c.match-source.branch [
  | in-Bytes+in_ok-repeat_metered-in-Bytes w ↦ repeat-step g.B.Backend.SHARES c.args.self.now c.put.new.self c.args.s c.args.t c.args.n _ _ c.in_ok-source.ensures.found c.in_ok-find.ensures.found
      c.in_ok-find.ensures.within (sym (ap state_of w.in-Bytes.is) ∙ c.in_ok-source.ensures.slot) (c.put.ensures ∙ ap (λ m. slice_set c.args.self.now c.args.t (state_of m)) w.made-is) refl w.in_ok-repeat_metered-in-Bytes.ensures.repeated
  | in-Text+in_ok-repeat_metered-in-Text w ↦ repeat-step g.B.Backend.SHARES c.args.self.now c.put.new.self c.args.s c.args.t c.args.n _ _ c.in_ok-source.ensures.found c.in_ok-find.ensures.found
      c.in_ok-find.ensures.within (sym (ap state_of w.in-Text.is) ∙ c.in_ok-source.ensures.slot) (c.put.ensures ∙ ap (λ m. slice_set c.args.self.now c.args.t (state_of m)) w.made-is) refl w.in_ok-repeat_metered-in-Text.ensures.repeated
]

pub returns-in_err-repeat_metered-in-Bytes : goal.returns-in_err-repeat_metered-in-Bytes
returns-in_err-repeat_metered-in-Bytes g c =
    record {
      step = repeat-refused g.B.Backend.SHARES c.args.self.now c.args.self.now c.args.s c.args.t c.args.n _ c.in_err-repeat_metered-in-Bytes.field-0.0 _ c.in_ok-source.ensures.found c.in_ok-find.ensures.found
          (sym (ap state_of c.in-Bytes.is) ∙ c.in_ok-source.ensures.slot) refl (search rules) c.in_err-repeat_metered-in-Bytes.ensures.repeated;
      counted = repeat-counted g.B.Backend.SHARES c.args.self.now c.args.s c.args.t c.args.n _ _ _ _ c.in_ok-source.ensures.found c.in_ok-find.ensures.found
          (sym (ap state_of c.in-Bytes.is) ∙ c.in_ok-source.ensures.slot) c.in_err-repeat_metered-in-Bytes.ensures.repeated c.in_err-repeat_metered-in-Bytes.ensures.counted c.in_err-repeat_metered-in-Bytes.ensures.refused_counts_none;
      copied = refused-counts (λ answer. counts_of g.B.Backend.SHARES c.args.self.now (Repeat c.args.s c.args.t c.args.n) answer c.args.self.now) _ (grow_reason_of c.in_err-repeat_metered-in-Bytes.field-0.0) refl (search rules) c.in_err-repeat_metered-in-Bytes.ensures.counted;
    }

pub returns-in_err-repeat_metered-in-Text : goal.returns-in_err-repeat_metered-in-Text
returns-in_err-repeat_metered-in-Text g c =
    record {
      step = repeat-refused g.B.Backend.SHARES c.args.self.now c.args.self.now c.args.s c.args.t c.args.n _ c.in_err-repeat_metered-in-Text.field-0.0 _ c.in_ok-source.ensures.found c.in_ok-find.ensures.found
          (sym (ap state_of c.in-Text.is) ∙ c.in_ok-source.ensures.slot) refl (search rules) c.in_err-repeat_metered-in-Text.ensures.repeated;
      counted = repeat-counted g.B.Backend.SHARES c.args.self.now c.args.s c.args.t c.args.n _ _ _ _ c.in_ok-source.ensures.found c.in_ok-find.ensures.found
          (sym (ap state_of c.in-Text.is) ∙ c.in_ok-source.ensures.slot) c.in_err-repeat_metered-in-Text.ensures.repeated c.in_err-repeat_metered-in-Text.ensures.counted c.in_err-repeat_metered-in-Text.ensures.refused_counts_none;
      copied = refused-counts (λ answer. counts_of g.B.Backend.SHARES c.args.self.now (Repeat c.args.s c.args.t c.args.n) answer c.args.self.now) _ (grow_reason_of c.in_err-repeat_metered-in-Text.field-0.0) refl (search rules) c.in_err-repeat_metered-in-Text.ensures.counted;
    }

pub returns-clause-counted : goal.returns-clause-counted
returns-clause-counted g c = elim c.match-source.branch [
  | in-Bytes+in_ok-repeat_metered-in-Bytes w ↦ subst (λ m. RisesAtMost c.args.meter.now m (cost_of g.B.Backend.SHARES c.args.self.now (Repeat c.args.s c.args.t c.args.n))) (sym w.meter-is)
      (repeat-counted g.B.Backend.SHARES c.args.self.now c.args.s c.args.t c.args.n _ _ _ _ c.in_ok-source.ensures.found c.in_ok-find.ensures.found
      (sym (ap state_of w.in-Bytes.is) ∙ c.in_ok-source.ensures.slot) w.in_ok-repeat_metered-in-Bytes.ensures.repeated w.in_ok-repeat_metered-in-Bytes.ensures.counted w.in_ok-repeat_metered-in-Bytes.ensures.refused_counts_none)
  | in-Text+in_ok-repeat_metered-in-Text w ↦ subst (λ m. RisesAtMost c.args.meter.now m (cost_of g.B.Backend.SHARES c.args.self.now (Repeat c.args.s c.args.t c.args.n))) (sym w.meter-is)
      (repeat-counted g.B.Backend.SHARES c.args.self.now c.args.s c.args.t c.args.n _ _ _ _ c.in_ok-source.ensures.found c.in_ok-find.ensures.found
      (sym (ap state_of w.in-Text.is) ∙ c.in_ok-source.ensures.slot) w.in_ok-repeat_metered-in-Text.ensures.repeated w.in_ok-repeat_metered-in-Text.ensures.counted w.in_ok-repeat_metered-in-Text.ensures.refused_counts_none)
]

pub returns-clause-copied : goal.returns-clause-copied
returns-clause-copied g c = elim c.match-source.branch [
  | in-Bytes+in_ok-repeat_metered-in-Bytes w ↦ subst (λ m. RisesAtLeast c.args.meter.now m (counts_of g.B.Backend.SHARES c.args.self.now (Repeat c.args.s c.args.t c.args.n) Done c.put.new.self)) (sym w.meter-is)
      (repeat-counts g.B.Backend.SHARES c.args.self.now c.put.new.self c.args.s c.args.t c.args.n _ _ _ _ _ (sym (ap state_of w.in-Bytes.is) ∙ c.in_ok-source.ensures.slot) w.in_ok-repeat_metered-in-Bytes.ensures.repeated
      w.in_ok-repeat_metered-in-Bytes.ensures.counted w.in_ok-repeat_metered-in-Bytes.ensures.copied)
  | in-Text+in_ok-repeat_metered-in-Text w ↦ subst (λ m. RisesAtLeast c.args.meter.now m (counts_of g.B.Backend.SHARES c.args.self.now (Repeat c.args.s c.args.t c.args.n) Done c.put.new.self)) (sym w.meter-is)
      (repeat-counts g.B.Backend.SHARES c.args.self.now c.put.new.self c.args.s c.args.t c.args.n _ _ _ _ _ (sym (ap state_of w.in-Text.is) ∙ c.in_ok-source.ensures.slot) w.in_ok-repeat_metered-in-Text.ensures.repeated
      w.in_ok-repeat_metered-in-Text.ensures.counted w.in_ok-repeat_metered-in-Text.ensures.copied)
]
