use Rattle.std.proofs.Common.{arith}
use Rattle.hip_text.proofs.Texts.{texts}
use Rattle.hip_text.proofs.hip_str.HipStr.concat_slices_metered.Goals as goal

pub invariant_of-result : goal.invariant_of-result
invariant_of-result g c = grind (arith, texts)
