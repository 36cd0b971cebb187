use Rattle.hip_match.specs.CharLaws.{char_at-starts}
use Rattle.hip_match.proofs.chars.wide_char_from.Goals as goal

pub from_u32_unchecked-requires : goal.from_u32_unchecked-requires
from_u32_unchecked-requires c = (char_at-starts _ _ _ _ c.utf8.text c.wide_code-code.ensures).1.scalar
