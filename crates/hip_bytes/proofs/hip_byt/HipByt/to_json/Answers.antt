use Rattle.std.proofs.Common.{◌∙◌, ap, map, arith}
use Rattle.std.proofs.lemmas.Result.{IfOk-from_err}
use Rattle.serde_json.specs.View.{view}
use Rattle.serde_json.proofs.Views.{view-Array}
use Rattle.hip_bytes.proofs.JsonItems.{made-all, made-more, room-left}
use Rattle.hip_bytes.proofs.hip_byt.HipByt.to_json.Goals as goal

pub returns-in_err-items : goal.returns-in_err-items
returns-in_err-items g c = record { value = IfOk-from_err _ _ c.from_residual.ensures.0 }

pub loop-byte-init : goal.loop-byte-init
loop-byte-init g c = record { made = ap (map view) c.in_ok-items.ensures.items; room = c.in_ok-items.ensures.capacity }

pub push_reserved-requires : goal.push_reserved-requires
push_reserved-requires g c = room-left _ _ _ _ _ c.loop-byte.invariant.made c.loop-byte-test.true c.loop-byte.invariant.room c.loop-byte.items.ok.0

pub loop-byte-smaller : goal.loop-byte-smaller
loop-byte-smaller g c = omega (arith, c.loop-byte-test.true)

pub loop-byte-preserved : goal.loop-byte-preserved
loop-byte-preserved g c = record {
  made = ap (map view) c.push_reserved.ensures.items ∙ made-more _ _ _ _ c.loop-byte-test.true c.loop-byte.invariant.made c.from.ensures;
  room = omega (arith, c.push_reserved.ensures.capacity, c.loop-byte.invariant.room);
}

pub returns : goal.returns
returns g c = record { value = view-Array c.loop-byte.items ∙ made-all _ _ _ _ c.loop-byte.invariant.made c.loop-byte-test.false c.as_slice-bytes.ensures.items }
