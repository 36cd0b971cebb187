use Rattle.std.proofs.Common.{◌∙◌, ◌==◌, List, ℕ, Option, ap, length, subst}
use Rattle.hip_cuts.specs.Cut.{PartsIfAnyCosts, Two}
use Rattle.hip_match.specs.Bytes.{byte_ends}
use Rattle.hip_match.specs.Trims.{rsplit_once}
use Rattle.hip_cuts.proofs.byte_cuts.HipBytByteCuts.rsplit_once_metered.Goals as goal

pub returns-clause-counted : goal.returns-clause-counted
returns-clause-counted g c =
    let there : List ℕ → Option Two = λ bytes. rsplit_once (byte_ends (λ b. b == c.args.byte) bytes) (length bytes) in
    subst (λ ranges. PartsIfAnyCosts g.B.Backend.SHARES ranges c.args.self.now c.args.meter.now c.parts_at.new.meter) (c.rsplit_once.ensures.value ∙ ap there c.as_slice.ensures.items) c.parts_at.ensures.counted
