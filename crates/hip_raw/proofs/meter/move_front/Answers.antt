use Rattle.std.proofs.Common.{◌≡◌, ◌∙◌, ◌++◌, ap, drop, length, take, length-take-le, arith}
use Rattle.std.proofs.lemmas.Simd.{put_chunk_is}
use Rattle.hip_raw.proofs.meter.move_front.Goals as goal

pub returns : goal.returns
returns g c =
    let front = take g.row.N c.args.from.now in
    let long : length front ≡ g.row.N = length-take-le g.row.N c.args.from.now c.requires.within.1 in
    put_chunk_is 0 c.args.to.now front (omega (arith, long, c.requires.within.0)) ∙ ap (λ n. front ++ drop n c.args.to.now) long
