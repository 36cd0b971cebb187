use Rattle.std.proofs.Common.{◌≡◌, ◌+◌, ◌-◌, length, take, sym, arith}
use Rattle.std.proofs.lemmas.List.{get_or-take, length-take-le}
use Rattle.hip_match.proofs.MarkLemmas.{alike}
use Rattle.hip_match.proofs.marks.block_before.Goals as goal

pub returns-clause-marks : goal.returns-clause-marks
returns-clause-marks g c =
    let places = g.T.PlaceTest.places c.args.test.now in
    let bytes = c.args.bytes.now in
    let to = c.args.to in
    let stop = to + c.reach.result in
    let value = c.reach.ensures.value in
    let size : length (take stop bytes) ≡ stop = length-take-le stop bytes (omega (arith, c.requires.within, value)) in
    let all : length (take stop bytes) - g.T.PlaceTest.reach c.args.test.now ≡ to = omega (arith, size, value) in
    alike places places (take stop bytes) bytes 0 to 64 _
    (λ p lt. c.reach.ensures.alike bytes (take stop bytes) p (omega (arith, c.requires.within, value)) (omega (arith, size)) (λ i lo hi. sym (get_or-take stop bytes i 0 (omega arith))))
    (rw all at c.few.ensures)
