use Rattle.std.proofs.Common.{◌∙◌, refl}
use Rattle.hip_match.proofs.PiecesLemmas.{IsBetween-moved, InOrder-le, ended-nil}
use Rattle.hip_match.proofs.split.SplitInclusiveRangesBack.next_back.Goals as goal

pub returns-then-self-2-clause-ready : goal.returns-then-self-2-clause-ready
returns-then-self-2-clause-ready g c =
    let taken = c.in-None.ensures.taken.list _ c.requires.1.in_order in
    (c.in-None.ensures.taken.ready, IsBetween-moved _ _ _ _ _ c.in-None.ensures.taken.text (record { start = c.requires.1.start; end = c.requires.1.end; in_order = taken.1 }))

pub returns-else-self-2-clause-last : goal.returns-else-self-2-clause-last
returns-else-self-2-clause-last g c =
    let taken = c.in-None.ensures.taken.list _ c.requires.1.in_order in
    (rw c.if-self.false (taken.0 ∙ ended-nil _ _ (InOrder-le _ _ _ c.requires.1.in_order) c.if-self-2.false), refl)

pub returns-else-self-2-clause-ready : goal.returns-else-self-2-clause-ready
returns-else-self-2-clause-ready g c =
    let taken = c.in-None.ensures.taken.list _ c.requires.1.in_order in
    (c.in-None.ensures.taken.ready, IsBetween-moved _ _ _ _ _ c.in-None.ensures.taken.text (record { start = c.requires.1.start; end = c.requires.1.end; in_order = taken.1 }))
