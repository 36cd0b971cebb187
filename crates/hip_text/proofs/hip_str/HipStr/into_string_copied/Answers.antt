use Rattle.std.proofs.Common.{arith}
use Rattle.hip_text.proofs.Texts.{texts}
use Rattle.hip_text.proofs.hip_str.HipStr.into_string_copied.Goals as goal

pub from_utf8_unchecked-requires : goal.from_utf8_unchecked-requires
from_utf8_unchecked-requires g c = grind (arith, texts)
