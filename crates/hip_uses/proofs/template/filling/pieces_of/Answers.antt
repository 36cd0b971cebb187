use Rattle.std.proofs.Common.{take_all, arith}
use Rattle.hip_uses.proofs.Templates.{fails-first, hole-fails, known-more, none-known, some-known, woven-more}
use Rattle.hip_uses.proofs.template.filling.pieces_of.Goals as goal

pub loop-place-preserved : goal.loop-place-preserved
loop-place-preserved g c = record {
  known = known-more c.args.values.now c.deref-hole-items.result.now c.loop-place.place c.hole-item.result (omega arith) c.hole-item.is (some-known c.in-Some-value_of.value.now _ c.in-Some-value_of.ensures) c.loop-place.invariant.known;
  pieces = woven-more c.args.values.now c.deref-hole-items.result.now c.loop-place.place c.hole-item.result c.as_str.result c.in-Some-value_of.value c.loop-place.pieces.items c.push_reserved.new.self.items c.push_reserved-in-loop-place.new.self.items
      (omega arith) c.hole-item.is c.as_str.ensures.items c.in-Some-value_of.ensures c.loop-place.invariant.pieces c.push_reserved.ensures.items c.push_reserved-in-loop-place.ensures.items;
  counted = omega arith;
  meter = c.loop-place.invariant.meter;
  room = omega arith;
}

pub returns-in_default-value_of-clause-fault : goal.returns-in_default-value_of-clause-fault
returns-in_default-value_of-clause-fault g c =
    rw (← c.deref-hole-items.ensures.value)
    (fails-first c.args.values.now c.deref-hole-items.result.now c.loop-place.place c.hole-item.result c.unknown.result (omega arith) c.hole-item.is c.loop-place.invariant.known
    (hole-fails c.args.values.now c.hole-item.result c.unknown.result (none-known _ c.in_default-value_of.ensures) c.unknown.ensures))

pub returns-clause-known : goal.returns-clause-known
returns-clause-known g c = rw (← c.deref-hole-items.ensures.value, ← take_all c.loop-place.place c.deref-hole-items.result.now (omega arith)) c.loop-place.invariant.known
