use Rattle.std.proofs.Common.{◌≡◌, ◌∙◌, ◌≢◌, ◌*◌, ◌<◌, ◌^◌, ap, sym, refl, length, subst, le_trans, arith}
use Rattle.std.proofs.lemmas.Bool.{eqb-true, eqb-false}
use Rattle.std.specs.List.{repeat}
use Rattle.hip_raw.specs.Meter.{RisesAtLeast, RisesAtMost, times_copied, unless_shared}
use Rattle.hip_bytes.specs.declared.kind.TheConstants.{INLINE_CAPACITY}
use Rattle.hip_bytes.proofs.Costs.{nothing_copied}
use Rattle.hip_bytes.proofs.GatherLemmas.{counted_copied, counted_more}
use Rattle.hip_bytes.proofs.Pushes.{all_copied}
use Rattle.hip_bytes.proofs.Repeats.{repeats-made, repeats-nothing, repeats-once, repeats-refused}
use Rattle.hip_bytes.proofs.hip_byt.HipByt.repeat_metered.Goals as goal

pub returns-then-is_empty : goal.returns-then-is_empty
returns-then-is_empty g c =
    let none : length c.args.self.now.items ≡ 0 = eqb-true _ _ (sym c.is_empty.ensures ∙ c.if-is_empty.true) in
    let made = repeats-nothing g.B.Backend.SHARES c.args.self.now c.args.n c.cloned.result _ _ none c.cloned.ensures.clone c.cloned.ensures.memory c.cloned.ensures.counted in
    record { repeated = made.0; counted = made.1; copied = made.2; refused_counts_none = made.3 }

pub returns-then-n-eq1 : goal.returns-then-n-eq1
returns-then-n-eq1 g c =
    let cloned = c.cloned-then-n-eq1.ensures in
    let made = repeats-once g.B.Backend.SHARES c.args.self.now c.args.n c.cloned-then-n-eq1.result _ _ c.if-n-eq1.true cloned.bound cloned.clone cloned.memory cloned.counted in
    record { repeated = made.0; counted = made.1; copied = made.2; refused_counts_none = made.3 }

pub returns-in_default : goal.returns-in_default
returns-in_default g c = record {
  repeated = omega (arith, subst (λ len. c.args.n * len < 2 ^ 64 → ⊥) c.len.ensures.len c.in_default.ensures);
  counted = nothing_copied _ _;
  copied = λ _. tt;
  refused_counts_none = λ _. refl;
}

pub returns-in_err-made : goal.returns-in_err-made
returns-in_err-made g c =
    let some : length c.args.self.now.items ≢ 0 = eqb-false _ _ (sym c.is_empty.ensures ∙ c.if-is_empty.false) in
    let size : c.in-Some.len ≡ c.args.n * length c.args.self.now.items = subst (λ len. c.in-Some.len ≡ c.args.n * len) c.len.ensures.len c.in-Some.ensures.1 in
    let bound : c.args.n * length c.args.self.now.items < 2 ^ 64 = subst (λ len. c.args.n * len < 2 ^ 64) c.len.ensures.len c.in-Some.ensures.0 in
    let least = c.in_err-made.ensures in
    let counted = subst (λ len. RisesAtMost c.args.meter.now c.repeated.new.meter (times_copied g.B.Backend.SHARES len)) size (counted_more _ _ _ _ least.counted (all_copied g.B.Backend.SHARES _)) in
    let made = repeats-refused g.B.Backend.SHARES c.args.self.now c.args.n _ _ some c.if-n-eq1.false c.from_residual.result c.from_residual.ensures.1 (subst (λ len. INLINE_CAPACITY < len) size least.memory) bound counted in
    record { repeated = made.0; counted = made.1; copied = made.2; refused_counts_none = made.3 }

pub returns-in_err-finish : goal.returns-in_err-finish
returns-in_err-finish g c =
    let some : length c.args.self.now.items ≢ 0 = eqb-false _ _ (sym c.is_empty.ensures ∙ c.if-is_empty.false) in
    let size : c.in-Some.len ≡ c.args.n * length c.args.self.now.items = subst (λ len. c.in-Some.len ≡ c.args.n * len) c.len.ensures.len c.in-Some.ensures.1 in
    let bound : c.args.n * length c.args.self.now.items < 2 ^ 64 = subst (λ len. c.args.n * len < 2 ^ 64) c.len.ensures.len c.in-Some.ensures.0 in
    let least = c.in_err-finish.ensures in
    let long = c.in_ok-made.ensures.len ∙ size in
    let counted = counted_copied _ _ _ _ _ g.B.Backend.SHARES (subst (RisesAtMost c.args.meter.now c.repeated.new.meter) size c.in_ok-made.ensures.counted) (subst (λ len. RisesAtMost c.repeated.new.meter c.finish.new.meter (unless_shared g.B.Backend.SHARES len)) long least.counted) refl in
    let made = repeats-refused g.B.Backend.SHARES c.args.self.now c.args.n _ _ some c.if-n-eq1.false c.from_residual-in_err-finish.result c.from_residual-in_err-finish.ensures.1 (subst (λ len. INLINE_CAPACITY < len) long least.memory) bound counted in
    record { repeated = made.0; counted = made.1; copied = made.2; refused_counts_none = made.3 }

pub returns : goal.returns
returns g c =
    let some : length c.args.self.now.items ≢ 0 = eqb-false _ _ (sym c.is_empty.ensures ∙ c.if-is_empty.false) in
    let size : c.in-Some.len ≡ c.args.n * length c.args.self.now.items = subst (λ len. c.in-Some.len ≡ c.args.n * len) c.len.ensures.len c.in-Some.ensures.1 in
    let bound : c.args.n * length c.args.self.now.items < 2 ^ 64 = subst (λ len. c.args.n * len < 2 ^ 64) c.len.ensures.len c.in-Some.ensures.0 in
    let all = c.in_ok-finish.ensures in
    let front = c.in_ok-made.ensures in
    let long = front.len ∙ size in
    let second = subst (λ len. RisesAtMost c.repeated.new.meter c.finish.new.meter (unless_shared g.B.Backend.SHARES len)) long all.counted in
    let counted = counted_copied _ _ _ _ _ g.B.Backend.SHARES (subst (RisesAtMost c.args.meter.now c.repeated.new.meter) size front.counted) second refl in
    let copied = subst (RisesAtLeast c.args.meter.now c.finish.new.meter) size (le_trans front.copied second.never_falls) in
    let made = repeats-made g.B.Backend.SHARES c.args.self.now c.args.n _ _ some c.if-n-eq1.false c.in_ok-finish.field-0 c.in_ok-made.made.items all.items all.kind all.capacity
    (front.items ∙ ap (repeat c.args.n) c.as_slice.ensures.items) long bound counted copied in
    record { repeated = made.0; counted = made.1; copied = made.2; refused_counts_none = made.3 }
