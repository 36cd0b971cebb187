use Rattle.hip_match.proofs.GapLemmas.{front_cut}
use Rattle.hip_match.proofs.marked_parts.MarkedPartsRanges.next.Goals as goal

pub returns-clause-cut : goal.returns-clause-cut
returns-clause-cut g c = (front_cut (g.T.ByteTest.passes c.args.self.now.marks.test.0) c.requires.1 _ _ _ _ c.take_first.result c.requires.0 c.take_first.ensures.part).0

pub returns-clause-ready : goal.returns-clause-ready
returns-clause-ready g c =
    let after = front_cut (g.T.ByteTest.passes c.args.self.now.marks.test.0) c.requires.1 _ _ _ _ c.take_first.result c.requires.0 c.take_first.ensures.part in
    (rw (c.take_first.ensures.bytes, c.take_first.ensures.to) after.1, rw c.take_first.ensures.test c.requires.1, c.take_first.ensures.ready)
