use Rattle.hip_match.proofs.GapLemmas.{back_cut}
use Rattle.hip_match.proofs.marked_parts.MarkedPartsRangesBack.next_back.Goals as goal

pub returns-clause-cut : goal.returns-clause-cut
returns-clause-cut g c = (back_cut (g.T.ByteTest.passes c.args.self.now.marks.test.0) c.requires.1 _ _ _ _ c.take_last.result c.requires.0 c.take_last.ensures.part).0

pub returns-clause-ready : goal.returns-clause-ready
returns-clause-ready g c =
    let after = back_cut (g.T.ByteTest.passes c.args.self.now.marks.test.0) c.requires.1 _ _ _ _ c.take_last.result c.requires.0 c.take_last.ensures.part in
    (rw (c.take_last.ensures.bytes, c.take_last.ensures.from) after.1, rw c.take_last.ensures.test c.requires.1, c.take_last.ensures.ready)
