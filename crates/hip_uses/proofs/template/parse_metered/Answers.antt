use Rattle.std.proofs.Common.{refl}
use Rattle.hip_uses.proofs.Holes.{end-is}
use Rattle.hip_uses.proofs.TemplateCosts.{rest-cost}
use Rattle.hip_uses.proofs.template.parse_metered.Goals as goal

pub returns-clause-parsed : goal.returns-clause-parsed
returns-clause-parsed g c = rw (c.in_ok-new.ensures.holes, c.in_ok-new.ensures.rest, c.in_ok-rest.ensures.part.items_are, c.len.ensures.len, end-is c.args.template.now.items c.in_ok-holes.end _ refl) c.in_ok-holes.ensures.parsed

pub returns-clause-holes : goal.returns-clause-holes
returns-clause-holes g c = rw c.in_ok-new.ensures.holes c.in_ok-holes.ensures.parts

pub returns-clause-counted : goal.returns-clause-counted
returns-clause-counted g c =
    rw (c.in_ok-new.ensures.holes, c.in_ok-new.ensures.rest)
    (rest-cost g.B.Backend.SHARES c.args.template.now c.in_ok-holes.holes.items c.in_ok-rest.rest c.in_ok-holes.end _ _ _ (rw c.len.ensures.len at c.in_ok-rest.ensures.part) c.in_ok-holes.ensures.boundary.0 c.in_ok-holes.ensures.counted (rw c.len.ensures.len at c.in_ok-rest.ensures.counted))
