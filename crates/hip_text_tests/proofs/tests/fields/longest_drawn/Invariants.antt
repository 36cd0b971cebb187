use Rattle.std.proofs.Common.{length}
use Rattle.hip_text_tests.proofs.tests.fields.longest_drawn.Given as goal

abbrev pub decreases-loop-field : goal.decreases-loop-field
decreases-loop-field l = length l.fields.rest
