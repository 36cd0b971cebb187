use Rattle.std.proofs.Common.{◌+◌, [], ◌∷◌, refl, arith}
use Rattle.hip_match.proofs.NeedleLemmas.{more_lanes}
use Rattle.hip_match.proofs.place_test.NeedlePlaceTest.lanes.Goals as goal

pub returns-in-Three : goal.returns-in-Three
returns-in-Three c = rw c.in-Three.is (more_lanes c.in-Three.a (c.in-Three.b ∷ c.in-Three.c ∷ []) c.args.bytes.now c.args.at (c.args.at + 1) _ _ refl c.lanes-in-Three.ensures c.lanes-in-Three-2.ensures)

pub returns-in-Four : goal.returns-in-Four
returns-in-Four c =
    let three = more_lanes c.in-Four.b (c.in-Four.c ∷ c.in-Four.d ∷ []) c.args.bytes.now (c.args.at + 1) (c.args.at + 2) _ _ (omega arith) c.lanes-in-Four-2.ensures c.lanes-in-Four-3.ensures in
    rw c.in-Four.is (more_lanes c.in-Four.a (c.in-Four.b ∷ c.in-Four.c ∷ c.in-Four.d ∷ []) c.args.bytes.now c.args.at (c.args.at + 1) _ _ refl c.lanes-in-Four.ensures three)
