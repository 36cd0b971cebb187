use Rattle.std.proofs.Common.{arith}
use Rattle.hip_match.proofs.NeedleLemmas.{pair_lanes}
use Rattle.hip_match.proofs.place_test.PairPlaceTest.lanes.Goals as goal

pub returns : goal.returns
returns c = pair_lanes c.args.self.now.0 c.args.self.now.1 c.args.bytes.now c.args.at _ _ (omega (arith, c.requires)) c.lanes.ensures c.lanes-2.ensures
