use Rattle.std.proofs.Common.{refl}
use Rattle.hip_script.specs.Performed.{Place}
use Rattle.hip_script.proofs.Plays.{cuts-aside, plays-aside}
use Rattle.hip_script.proofs.play.play_line.Goals as goal

pub returns-in_ok-tell-in-Aside-clause-ok : goal.returns-in_ok-tell-in-Aside-clause-ok
returns-in_ok-tell-in-Aside-clause-ok g c =
    let contents = g.W.Write.contents in
    let old : Place = record { slots = c.args.pool.now; counted = c.args.meter.now; written = contents c.args.out.now } in
    let ran : Place = record { slots = c.perform_waiting.new.pool; counted = c.perform_waiting.new.meter; written = contents c.perform_waiting.new.out } in
    let new : Place = record { slots = c.perform_waiting.new.pool; counted = c.tell.new.meter; written = contents c.tell.new.out } in
    plays-aside _ _ _ _ _ old ran new c.in-Aside.is c.in_ok-perform_waiting-in-Aside.ensures.emptied c.in_ok-perform_waiting-in-Aside.ensures.ok refl c.in_ok-tell-in-Aside.ensures

pub returns-in_err-tell-in-Aside-clause-failed : goal.returns-in_err-tell-in-Aside-clause-failed
returns-in_err-tell-in-Aside-clause-failed g c = λ failed.
    let contents = g.W.Write.contents in
    let old : Place = record { slots = c.args.pool.now; counted = c.args.meter.now; written = contents c.args.out.now } in
    let ran : Place = record { slots = c.perform_waiting.new.pool; counted = c.perform_waiting.new.meter; written = contents c.perform_waiting.new.out } in
    cuts-aside _ _ _ _ old ran c.tell.new.meter (contents c.tell.new.out) _ c.in-Aside.is c.in_ok-perform_waiting-in-Aside.ensures.ok c.in_err-tell-in-Aside.ensures
