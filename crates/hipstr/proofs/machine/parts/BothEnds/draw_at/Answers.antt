use Rattle.hipstr.proofs.Parts.{draws-back}
use Rattle.hipstr.proofs.machine.parts.BothEnds.draw_at.Goals as goal

pub returns-in-Back-clause-drawn : goal.returns-in-Back-clause-drawn
returns-in-Back-clause-drawn g c =
    rw c.in-Back.is (draws-back g.B.Backend.SHARES c.args.walk.now c.next_back_metered.new.self c.next_back_metered.result c.args.meter.now c.next_back_metered.new.meter
    c.next_back_metered.ensures.last c.next_back_metered.ensures.counted c.next_back_metered.ensures.copied)
