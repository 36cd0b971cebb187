use Rattle.std.proofs.Common.{◌≡◌, ◌+◌, ◌-◌, ℕ, length, subst, arith, bit_or}
use Rattle.hip_match.specs.Marks.{AreMarks}
use Rattle.hip_match.proofs.MarkLemmas.{joined}
use Rattle.hip_match.proofs.marks.few.Goals as goal

pub returns : goal.returns
returns g c =
    let test = g.T.PlaceTest.places c.args.test in
    let t = c.args.bytes.now in
    let n = length t - c.reach.result in
    let long = c.if-count-lt-LANES.false in
    let a = c.min-second.result in
    let b = c.min-third.result in
    let second = c.min-second.ensures in
    let third = c.min-third.ensures in
    let two = joined test t 0 16 64 _ (c.lanes_moved.ensures 64 (omega arith)) a (a + 16) _ (omega arith) (omega (arith, second)) (omega (arith, second, long)) (c.lanes_moved-2.ensures 64 (omega arith)) in
    let three = joined test t 0 (a + 16) 64 _ two b (b + 16) _ (omega arith) (omega (arith, second, third)) (omega (arith, second, third)) (c.lanes_moved-3.ensures 64 (omega arith)) in
    let four = joined test t 0 (b + 16) 64 _ three (n - 16) (n - 16 + 16) _ (omega arith) (omega (arith, third, c.requires.few, c.reach.ensures.value)) (omega (arith, third)) (c.lanes_moved-4.ensures 64 (omega arith)) in
    let whole : n - 16 + 16 ≡ length t - g.T.PlaceTest.reach c.args.test = omega (arith, long, c.reach.ensures.value) in
    subst (λ (to : ℕ). AreMarks test t 0 to 64 (bit_or (bit_or (bit_or c.lanes_moved.result c.lanes_moved-2.result) c.lanes_moved-3.result) c.lanes_moved-4.result)) whole four
