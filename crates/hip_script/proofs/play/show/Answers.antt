use Rattle.std.proofs.{Common.refl, Common.subst}
use Rattle.hipstr.specs.Slot.{state_of}
use Rattle.hip_script.proofs.Plays.{prints-no-slot, prints-slot}
use Rattle.hip_script.specs.Prints.{Prints}
use Rattle.hip_script.proofs.play.show.Goals as goal

pub returns-in-Some : goal.returns-in-Some
returns-in-Some g c =
    subst (λ text. Prints (g.W.Write.contents c.args.out.now) (g.W.Write.contents c.print_slot.new.out) text c.print_slot.result)
    (prints-slot c.args.pool.now c.args.slot (state_of c.in-Some.slot.now) _ _ (c.in-Some.ensures.found.0 refl) c.in-Some.ensures.slot c.is_text.ensures.text c.as_bytes.ensures.items) c.print_slot.ensures

pub returns-in-None : goal.returns-in-None
returns-in-None g c = subst (λ text. Prints (g.W.Write.contents c.args.out.now) (g.W.Write.contents c.write.new.out) text c.write.result) (prints-no-slot c.args.pool.now c.args.slot c.in-None.ensures.found.1) c.write.ensures
