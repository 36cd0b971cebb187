use Rattle.std.proofs.Common.{◌+◌, arith, sym}
use Rattle.std.specs.Cmp.Lexicographic.{same_text}
use Rattle.hip_uses.proofs.Filling.{next-long, no-place, others-more, part-long, place-is}
use Rattle.hip_uses.proofs.tools.filled.place_of.Goals as goal

pub overflow_add-result : goal.overflow_add-result
overflow_add-result g c =
    omega (arith, c.requires, c.len.ensures.len, c.loop-hole.invariant.place, next-long c.args.holes.now c.loop-hole.hole-index c.hole-item.result c.loop-hole-test.true c.hole-item.is, part-long c.args.holes.now (c.loop-hole.hole-index + 1))

pub returns-then-eq-clause-place : goal.returns-then-eq-clause-place
returns-then-eq-clause-place g c =
    place-is c.args.name.now.items c.args.holes.now c.loop-hole.hole-index c.hole-item.result _ c.hole-item.is (same_text c.hole-item.result.name.items c.args.name.now.items c.if-eq.ensures) c.loop-hole.invariant.others
    (omega (arith, c.loop-hole.invariant.place, c.len.ensures.len))

pub returns-then-eq-clause-within : goal.returns-then-eq-clause-within
returns-then-eq-clause-within g c =
    omega (arith, c.requires, c.len.ensures.len, c.loop-hole.invariant.place, next-long c.args.holes.now c.loop-hole.hole-index c.hole-item.result c.loop-hole-test.true c.hole-item.is, part-long c.args.holes.now (c.loop-hole.hole-index + 1))

pub overflow_add-place : goal.overflow_add-place
overflow_add-place g c =
    omega (arith, c.requires, c.len-in-loop-hole.ensures.len, c.len-in-loop-hole-2.ensures.len, c.loop-hole.invariant.place, next-long c.args.holes.now c.loop-hole.hole-index c.hole-item.result c.loop-hole-test.true c.hole-item.is, part-long c.args.holes.now (c.loop-hole.hole-index + 1))

pub overflow_add-place-in-loop-hole : goal.overflow_add-place-in-loop-hole
overflow_add-place-in-loop-hole g c =
    omega (arith, c.requires, c.len-in-loop-hole.ensures.len, c.len-in-loop-hole-2.ensures.len, c.loop-hole.invariant.place, next-long c.args.holes.now c.loop-hole.hole-index c.hole-item.result c.loop-hole-test.true c.hole-item.is, part-long c.args.holes.now (c.loop-hole.hole-index + 1))

pub overflow_add-place-in-loop-hole-2 : goal.overflow_add-place-in-loop-hole-2
overflow_add-place-in-loop-hole-2 g c =
    omega (arith, c.requires, c.len-in-loop-hole.ensures.len, c.len-in-loop-hole-2.ensures.len, c.loop-hole.invariant.place, next-long c.args.holes.now c.loop-hole.hole-index c.hole-item.result c.loop-hole-test.true c.hole-item.is, part-long c.args.holes.now (c.loop-hole.hole-index + 1))

pub loop-hole-preserved : goal.loop-hole-preserved
loop-hole-preserved g c = record {
  place = omega (arith, c.len-in-loop-hole.ensures.len, c.len-in-loop-hole-2.ensures.len, c.loop-hole.invariant.place, next-long c.args.holes.now c.loop-hole.hole-index c.hole-item.result c.loop-hole-test.true c.hole-item.is);
  others = others-more c.args.name.now.items c.args.holes.now c.loop-hole.hole-index c.hole-item.result c.loop-hole-test.true c.hole-item.is (sym c.if-eq.ensures) c.loop-hole.invariant.others;
}

pub returns-clause-place : goal.returns-clause-place
returns-clause-place g c = no-place c.args.name.now.items c.args.holes.now _ (λ k d low. c.loop-hole.invariant.others k d (omega (arith, low, c.loop-hole-test.false)))
