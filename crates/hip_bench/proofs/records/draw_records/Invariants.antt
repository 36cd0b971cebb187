use Rattle.std.proofs.Common.{length}
use Rattle.hip_bench.proofs.records.draw_records.Given as goal

abbrev pub decreases-loop-fields : goal.decreases-loop-fields
decreases-loop-fields g l = length l.records.rest
