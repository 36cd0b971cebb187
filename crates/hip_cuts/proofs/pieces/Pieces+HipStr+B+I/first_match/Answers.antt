use Rattle.hip_cuts.proofs.pieces.Pieces+HipStr+B+I.first_match.Goals as goal

pub returns-clause-counted : goal.returns-clause-counted
returns-clause-counted g c = rw (← c.self.view_is) (_, c.in_ok-start.ensures.first, c.part_metered-first.ensures.counted)
