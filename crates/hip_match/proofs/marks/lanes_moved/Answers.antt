use Rattle.std.proofs.Common.{◌+◌, arith}
use Rattle.hip_match.proofs.MarkLemmas.{moved}
use Rattle.hip_match.proofs.marks.lanes_moved.Goals as goal

pub returns : goal.returns
returns g c end is =
    let at = c.args.at in
    moved (g.T.PlaceTest.places c.args.test.now) c.args.bytes.now at (at + 16) (at + 64) _ c.lanes.ensures c.args.by end _ is (omega (arith, is, c.requires.by)) c.shifted_up.ensures.below c.shifted_up.ensures.moved
