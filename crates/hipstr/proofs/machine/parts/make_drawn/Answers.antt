use Rattle.std.proofs.Common.{◌≡◌, ◌≤◌, ◌∙◌, Bool, false, subst, length, map, replicate, take, refl, ap, sym, arith}
use Rattle.std.proofs.lemmas.List.{length-map}
use Rattle.hip_match.specs.Draw.{draw}
use Rattle.std.specs.Prelude.{◌&&◌}
use Rattle.hip_bytes.specs.Meter.{RisesAtLeast}
use Rattle.hipstr.specs.Parts.{parts_count}
use Rattle.hipstr.specs.{Cut.has_back, Slot.empty_slot, Slot.state_of}
use Rattle.hipstr.proofs.Parts.{all-front, goes-on, has-ended, is-refused, script-ended, so-far-none}
use Rattle.hipstr.proofs.machine.parts.make_drawn.Goals as goal

pub loop-i-init : goal.loop-i-init
loop-i-init g c =
    let state = state_of {B = g.row.B.Denot} {S = g.row.B-Sole.Denot} {P = g.row.B-Extent.Denot} in
    let spare = map state c.args.spare.now in
    record {
      so_far = so-far-none g.B.Backend.SHARES c.args.walk.source (draw c.args.walk.rest c.args.script.now) spare c.args.meter.now c.requires.room.empty;
      source = refl;
    }

pub loop-i-preserved : goal.loop-i-preserved
loop-i-preserved g c =
    let state = state_of {B = g.row.B.Denot} {S = g.row.B-Sole.Denot} {P = g.row.B-Extent.Denot} in
    let room : length c.args.script.now ≤ length (map state c.loop-i.spare) = omega (arith, c.requires.room.within, c.loop-i.auto.spare, length-map c.args.spare.now state, length-map c.loop-i.spare state) in
    record {
      so_far = goes-on c.in-Some-Ok.field-0 g.B.Backend.SHARES c.args.walk.source c.loop-i.walk.source (draw c.args.walk.rest c.args.script.now) c.loop-i.walk.rest c.draw_at.new.walk.rest
          c.args.script.now c.loop-i.i _ (map state c.loop-i.spare) (map state c.put_text.new.slots) c.in-Some-Ok.part c.args.meter.now c.loop-i.meter c.draw_at.new.meter
          c.loop-i.invariant.so_far c.loop-i.invariant.source c.loop-i-test.true room c.in-Some-Ok.ensures.drawn c.in-Some-Ok.field-0-is c.put_text.ensures;
      source = c.draw_at.ensures.source ∙ c.loop-i.invariant.source;
    }

pub returns-in-Some-Err : goal.returns-in-Some-Err
returns-in-Some-Err g c =
    let state = state_of {B = g.row.B.Denot} {S = g.row.B-Sole.Denot} {P = g.row.B-Extent.Denot} in
    let refused = is-refused c.in-Some-Err.field-0 _ g.B.Backend.SHARES c.args.walk.source c.loop-i.walk.source (draw c.args.walk.rest c.args.script.now) c.loop-i.walk.rest c.draw_at.new.walk.rest
    c.args.script.now c.loop-i.i _ (map state c.loop-i.spare) c.args.meter.now c.loop-i.meter c.draw_at.new.meter
    c.loop-i.invariant.so_far c.loop-i.invariant.source c.loop-i-test.true c.in-Some-Err.ensures.drawn c.in-Some-Err.field-0-is in
    record { made = (refused.needs, c.empty_all.ensures ∙ ap (λ n. replicate n empty_slot) (let same : length c.loop-i.spare ≡ length (map state c.args.spare.now) = omega (arith, c.loop-i.auto.spare, length-map c.args.spare.now state) in same) ∙ sym c.requires.room.empty); counted = refused.rises; copied = tt }

pub returns-in-None : goal.returns-in-None
returns-in-None g c =
    let all = has-ended g.B.Backend.SHARES c.args.walk.source (draw c.args.walk.rest c.args.script.now) c.loop-i.walk.rest c.args.script.now c.loop-i.i
    (map (state_of {B = g.row.B.Denot} {S = g.row.B-Sole.Denot} {P = g.row.B-Extent.Denot}) c.loop-i.spare) c.args.meter.now c.loop-i.meter c.draw_at.new.meter c.loop-i.invariant.so_far c.in-None.ensures.drawn.0 c.in-None.ensures.drawn.1 in
    record { made = all.made; counted = all.rises; copied = all.counts }

pub draw_at-requires : goal.draw_at-requires
draw_at-requires g c one_way =
    all-front c.args.script.now c.loop-i.i _ (subst (λ (alone : Bool). (alone && has_back c.args.script.now) ≡ false) one_way c.requires.ends) c.loop-i-test.true

pub returns : goal.returns
returns g c =
    let state = state_of {B = g.row.B.Denot} {S = g.row.B-Sole.Denot} {P = g.row.B-Extent.Denot} in
    let all = script-ended g.B.Backend.SHARES c.args.walk.source (draw c.args.walk.rest c.args.script.now) c.loop-i.walk.rest c.args.script.now c.loop-i.i
    (map state c.loop-i.spare) c.args.meter.now c.loop-i.meter c.loop-i.invariant.so_far c.loop-i-test.false in
    let ended : c.loop-i.i ≡ length c.args.script.now = omega (arith, c.loop-i-test.false, c.loop-i.auto.i-end) in
    record {
      made = (omega (arith, all.made.0, ended), all.made.1);
      counted = all.rises;
      copied = subst (λ n. RisesAtLeast c.args.meter.now c.loop-i.meter (parts_count g.B.Backend.SHARES c.args.walk.source (take n (map state c.loop-i.spare)))) ended all.counts;
    }

pub bounds-script-i : goal.bounds-script-i
bounds-script-i g c = c.loop-i-test.true

pub put_text-requires : goal.put_text-requires
put_text-requires g c =
    let state = state_of {B = g.row.B.Denot} {S = g.row.B-Sole.Denot} {P = g.row.B-Extent.Denot} in
    omega (arith, c.loop-i-test.true, c.requires.room.within, c.loop-i.auto.spare, length-map c.args.spare.now state)

pub empty_all-requires : goal.empty_all-requires
empty_all-requires g c = λ κs within. within

pub drop-walk-inside-requires : goal.drop-walk-inside-requires
drop-walk-inside-requires g c = λ κs within. within

pub loop-i-smaller : goal.loop-i-smaller
loop-i-smaller g c = omega (arith, c.loop-i-test.true)

pub drop-walk-inside-requires-in-None : goal.drop-walk-inside-requires-in-None
drop-walk-inside-requires-in-None g c = λ κs within. within

pub drop-walk-inside-requires-2 : goal.drop-walk-inside-requires-2
drop-walk-inside-requires-2 g c = λ κs within. within
