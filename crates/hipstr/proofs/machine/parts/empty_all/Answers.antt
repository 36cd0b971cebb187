use Rattle.std.proofs.Common.{◌≡◌, ◌∙◌, ◌<◌, length, map, replicate, ap, arith, refl, rules, sym}
use Rattle.std.proofs.lemmas.List.{length-map, map-set, take_all}
use Rattle.hipstr.specs.Slot.{empty_slot, state_of}
use Rattle.hipstr.proofs.Parts.{empties-on}
use Rattle.hipstr.proofs.machine.parts.empty_all.Goals as goal

pub loop-i-preserved : goal.loop-i-preserved
loop-i-preserved g c =
    let state = state_of {B = g.row.B.Denot} {S = g.row.B-Sole.Denot} {P = g.row.B-Extent.Denot} in
    let within : c.loop-i.i < length (map state c.loop-i.slots) = omega (arith, c.loop-i-test.true, c.loop-i.auto.slots, length-map c.loop-i.slots state) in
    rw (map-set state c.loop-i.slots c.loop-i.i c.empty.result) (empties-on (map state c.loop-i.slots) c.loop-i.i (state c.empty.result) within c.empty.ensures c.loop-i.invariant)

pub loop-i-init : goal.loop-i-init
loop-i-init g c = refl

pub offset_bounds-slots-i : goal.offset_bounds-slots-i
offset_bounds-slots-i g c = search rules

pub bounds-slots-i : goal.bounds-slots-i
bounds-slots-i g c = omega (arith, c.loop-i-test.true, c.loop-i.auto.slots)

pub returns : goal.returns
returns g c =
    let state = state_of {B = g.row.B.Denot} {S = g.row.B-Sole.Denot} {P = g.row.B-Extent.Denot} in
    let ended : c.loop-i.i ≡ length c.args.slots.now = omega (arith, c.loop-i-test.false, c.loop-i.auto) in
    sym (take_all c.loop-i.i (map state c.loop-i.slots) (omega (arith, c.loop-i-test.false, c.loop-i.auto.slots, length-map c.loop-i.slots state)))
    ∙ c.loop-i.invariant ∙ ap (λ n. replicate n empty_slot) ended
