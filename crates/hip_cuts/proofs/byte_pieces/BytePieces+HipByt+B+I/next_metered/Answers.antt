use Rattle.hip_cuts.proofs.byte_pieces.BytePieces+HipByt+B+I.next_metered.Goals as goal

pub returns-clause-first : goal.returns-clause-first
returns-clause-first g c = rw (← c.self.view_is) (_, c.in_ok-start.ensures.first, rw (← c.self.invariant.1) c.in_ok-start.ensures.within, c.part_metered.ensures.part)

pub returns-clause-counted : goal.returns-clause-counted
returns-clause-counted g c = rw (← c.self.view_is) (_, c.in_ok-start.ensures.first, c.part_metered.ensures.counted)
