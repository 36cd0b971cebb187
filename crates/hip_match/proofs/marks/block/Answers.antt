use Rattle.std.proofs.Common.{◌≡◌, ◌+◌, ℕ, subst, arith, bit_or}
use Rattle.hip_match.specs.Marks.{AreMarks}
use Rattle.hip_match.proofs.MarkLemmas.{joined}
use Rattle.hip_match.proofs.marks.block.Goals as goal

pub returns : goal.returns
returns g c =
    let test = g.T.PlaceTest.places c.args.test.now in
    let t = c.args.bytes.now in
    let at = c.args.at in
    let end = at + 64 in
    let two = joined test t at (at + 16) end _ (c.lanes_moved.ensures end (omega arith)) (at + 16) (at + 16 + 16) _ (omega arith) (omega arith) (omega arith) (c.lanes_moved-2.ensures end (omega arith)) in
    let three = joined test t at (at + 16 + 16) end _ two (at + 32) (at + 32 + 16) _ (omega arith) (omega arith) (omega arith) (c.lanes_moved-3.ensures end (omega arith)) in
    let four = joined test t at (at + 32 + 16) end _ three (at + 48) (at + 48 + 16) _ (omega arith) (omega arith) (omega arith) (c.lanes_moved-4.ensures end (omega arith)) in
    let whole : at + 48 + 16 ≡ end = omega arith in
    subst (λ (to : ℕ). AreMarks test t at to end (bit_or (bit_or (bit_or c.lanes_moved.result c.lanes_moved-2.result) c.lanes_moved-3.result) c.lanes_moved-4.result)) whole four
