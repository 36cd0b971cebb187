use Rattle.std.proofs.Common.{arith, w64}
use Rattle.std.proofs.lemmas.Nat.Bits.{bit_at-trailing_zeros}
use Rattle.hip_match.proofs.bits.lowest.Goals as goal

pub returns-else-m-eq0 : goal.returns-else-m-eq0
returns-else-m-eq0 c =
    let h = bit_at-trailing_zeros w64 c.args.m (omega (arith, c.if-m-eq0.false)) c.ranges.m.fits in
    record { bound = h.0; set = h.1; below = h.2 }
