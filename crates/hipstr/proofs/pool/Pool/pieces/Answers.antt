use Rattle.std.proofs.{Common.arith, lemmas.Grind.common_steps}
use Rattle.hipstr.proofs.pool.Pool.pieces.Goals as goal

pub loop-i-preserved : goal.loop-i-preserved
loop-i-preserved g c = grind (arith, common_steps)
