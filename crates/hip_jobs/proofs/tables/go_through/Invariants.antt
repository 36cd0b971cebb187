use Rattle.std.proofs.Common.{length}
use Rattle.hip_jobs.proofs.tables.go_through.Given as goal

abbrev pub decreases-loop-fields : goal.decreases-loop-fields
decreases-loop-fields g l = length l.records.rest
