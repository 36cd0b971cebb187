use Rattle.hip_match.proofs.BitLemmas.{top}
use Rattle.hip_match.proofs.bits.highest.Goals as goal

pub returns-else-m-eq0 : goal.returns-else-m-eq0
returns-else-m-eq0 c = top _ _ c.ilog2.ensures.bound c.ilog2.ensures.power_le c.ilog2.ensures.next_power_gt
