use Rattle.std.proofs.Common.{arith}
use Rattle.hip_text.proofs.Texts.{strings}
use Rattle.hip_text.proofs.hip_str.mutate.HipStrTextSource.lend_string_metered.Goals as goal

pub from_utf8_unchecked-requires : goal.from_utf8_unchecked-requires
from_utf8_unchecked-requires g c = grind (arith, strings)

pub invariant_of-self-2 : goal.invariant_of-self-2
invariant_of-self-2 g c = grind (arith, strings)
