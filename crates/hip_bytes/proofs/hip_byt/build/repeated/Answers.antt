use Rattle.std.proofs.Common.{◌∙◌, ◌≤◌, ◌+◌, ◌*◌, ◌++◌, length, take, ap, sym, subst, append-nil, le_refl, le_trans, arith}
use Rattle.std.proofs.Math.Nat.{add-mul, mul-le-mul_right}
use Rattle.std.specs.List.{repeat}
use Rattle.hip_raw.specs.Meter.{RisesAtLeast, RisesAtMost}
use Rattle.hip_bytes.proofs.Costs.{if_err, nothing_copied}
use Rattle.hip_bytes.proofs.GatherLemmas.{none_copied, if_fault}
use Rattle.hip_bytes.proofs.Repeats.{repeat-append, length-repeat, take-repeat, times_fit, repeated_all, repeated_long, repeated_count, once, first_time, all_times, some_fit}
use Rattle.hip_bytes.proofs.hip_byt.build.repeated.Goals as goal

pub add_front_within-requires-clause-there : goal.add_front_within-requires-clause-there
add_front_within-requires-clause-there c =
    let some : c.min-more.result ≤ c.loop-done.done = omega arith in
    omega (
      arith,
      ap length c.loop-done.invariant.items,
      length-repeat c.loop-done.done c.args.bytes.now,
      mul-le-mul_right {m = c.min-more.result} {n = c.loop-done.done} (length c.args.bytes.now) some,
    )

pub add_front_within-requires-clause-fits : goal.add_front_within-requires-clause-fits
add_front_within-requires-clause-fits c =
    let left : c.loop-done.done + c.min-more.result ≤ c.args.n = omega arith in
    omega (
      arith,
      ap length c.loop-done.invariant.items,
      length-repeat c.loop-done.done c.args.bytes.now,
      times_fit c.loop-done.done c.min-more.result c.args.n (length c.args.bytes.now) left,
    )

pub loop-done-preserved : goal.loop-done-preserved
loop-done-preserved c =
    let bytes = c.args.bytes.now in
    let done = c.loop-done.done in
    let more = c.min-more.result in
    let some : more ≤ done = omega arith in
    record {
      begun = omega arith;
      within = omega arith;
      items = c.add_front_within.ensures.items ∙ ap (λ xs. xs ++ take (more * length bytes) xs) c.loop-done.invariant.items
          ∙ ap (λ xs. repeat done bytes ++ xs) (take-repeat more done bytes some) ∙ repeat-append done more bytes;
      room = omega arith;
      place = c.add_front_within.ensures.place ∙ c.loop-done.invariant.place;
      counted = record { never_falls = omega arith; at_most = omega (arith, add-mul done more (length bytes)) };
      copied = omega (arith, c.add_front_within.ensures.copied, c.loop-done.invariant.copied, add-mul done more (length bytes));
    }

pub overflow_mul-more : goal.overflow_mul-more
overflow_mul-more c = some_fit _ _ _ _ _ _ _ c.min-more.ensures c.min.ensures c.requires.whole c.ranges.len

pub loop-done-init : goal.loop-done-init
loop-done-init c =
    let made = c.in_ok-made.ensures in
    let added = c.add_within.ensures in
    let (begun, within) = first_time _ c.if-n-eq0.false in
    record {
      begun = begun;
      within = within;
      items = added.items ∙ ap (λ xs. xs ++ c.args.bytes.now) made.items ∙ sym (append-nil c.args.bytes.now);
      room = le_trans made.room added.room;
      place = added.place ∙ made.place;
      counted = subst (RisesAtMost c.args.meter.now c.add_within.new.meter) (once _) added.counted;
      copied = subst (RisesAtLeast c.args.meter.now c.add_within.new.meter) (once _) added.copied;
    }

pub returns-then-n-eq0 : goal.returns-then-n-eq0
returns-then-n-eq0 c =
    let made = c.in_ok-made.ensures in
    let none = sym c.if-n-eq0.true in
    let long = repeated_long c.in_ok-made.made.items c.args.bytes.now 0 _ _ c.requires.whole none made.items in
    record {
      items = repeated_all c.in_ok-made.made.items c.args.bytes.now 0 _ _ c.requires.whole none made.items;
      len = long;
      place = made.place;
      memory = tt;
      counted = nothing_copied _ _;
      copied = subst (RisesAtLeast c.args.meter.now c.args.meter.now) long (none_copied _ _ _ made.items (le_refl _));
    }

pub returns-in_err-made : goal.returns-in_err-made
returns-in_err-made c =
    let r = c.from_residual.result in
    let fault = c.from_residual.ensures.1 in
    record {
      items = if_fault r _ _ fault;
      len = if_fault r _ _ fault;
      place = if_fault r _ _ fault;
      memory = if_err r _ c.in_err-made.ensures.memory;
      counted = nothing_copied _ _;
      copied = if_fault r _ _ fault;
    }

pub returns : goal.returns
returns c =
    let made = c.loop-done.invariant in
    let all = all_times _ _ c.loop-done-test.false made.within in
    let count = repeated_count c.loop-done.made.items c.args.bytes.now _ _ _ c.requires.whole all made.items in
    record {
      items = repeated_all c.loop-done.made.items c.args.bytes.now _ _ _ c.requires.whole all made.items;
      len = repeated_long c.loop-done.made.items c.args.bytes.now _ _ _ c.requires.whole all made.items;
      place = made.place;
      memory = tt;
      counted = subst (RisesAtMost c.args.meter.now c.loop-done.meter) count made.counted;
      copied = subst (RisesAtLeast c.args.meter.now c.loop-done.meter) count made.copied;
    }
