use Rattle.std.proofs.Common.{◌*◌, length, ap, take_all, arith}
use Rattle.std.proofs.lemmas.Grind.{common_steps}
use Rattle.std.specs.List.{flat_map}
use Rattle.std.proofs.lemmas.List.Folds.{length-flat_map-take}
use Rattle.hip_bytes.proofs.Joins.{length-joined}
use Rattle.hip_bytes.proofs.hip_byt.build.joined_len.Goals as goal

pub returns-in_err-len : goal.returns-in_err-len
returns-in_err-len g c =
    let gaps = ap (λ n. n * length c.args.sep.now) c.saturating_sub.ensures in
    rw c.from_residual.ensures (λ h. c.in_err-len.ensures (omega (arith, length-joined g.P.Piece.bytes c.args.sep.now c.args.pieces.now, gaps)))

pub returns-in_err-len-2 : goal.returns-in_err-len-2
returns-in_err-len-2 g c =
    let more = length-flat_map-take g.P.Piece.bytes c.args.pieces.now c.loop-piece.piece-index c.piece-item.result c.loop-piece-test.true in
    let shown = ap (λ piece. length (g.P.Piece.bytes piece)) c.piece-item.is in
    let long = ap length c.as_piece.ensures.bytes in
    rw c.from_residual-in_err-len-2.ensures (λ h. c.in_err-len-2.ensures (omega (arith, length-joined g.P.Piece.bytes c.args.sep.now c.args.pieces.now, more, shown, long, c.loop-piece.invariant.len)))

pub returns : goal.returns
returns g c =
    let all = ap (λ xs. length (flat_map g.P.Piece.bytes xs)) (take_all c.loop-piece.piece-index c.args.pieces.now (omega (arith, c.loop-piece-test.false))) in
    let whole = length-joined g.P.Piece.bytes c.args.sep.now c.args.pieces.now in
    (omega (arith, all, whole, c.loop-piece.invariant.len, c.loop-piece.invariant.fits), omega (arith, all, whole, c.loop-piece.invariant.len))

pub loop-piece-preserved : goal.loop-piece-preserved
loop-piece-preserved g c = grind (arith, common_steps)
