use Rattle.std.proofs.Common.{◌==◌}
use Rattle.std.proofs.lemmas.Simd.{zip2_splat, length-chunk}
use Rattle.hip_match.proofs.LaneLemmas.{marked, top_of}
use Rattle.hip_match.proofs.byte_test.OneByteByteTest.lanes.Goals as goal

pub returns : goal.returns
returns c =
    marked (λ x. x == c.args.self.now.0) _ _ _ _ c.requires c.type_inv.bytes (zip2_splat _ _ 16 _ (length-chunk _ 16 _ c.requires)) (λ x low. top_of (x == c.args.self.now.0))
