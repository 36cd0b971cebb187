use Rattle.std.proofs.Common.{◌≡◌, ◌<◌, ◌^◌}
use Rattle.std.specs.{Simd.Lanes.chunk, Slice.Scan.big_endian}
use Rattle.hip_raw.proofs.compare.number_at.Given as goal

abbrev pub invariant-loop-k : goal.invariant-loop-k
invariant-loop-k g l = record {
  spelt : l.number ≡ big_endian 0 (chunk l.i l.k l.bytes);
  small : l.number < 256 ^ l.k;
}
