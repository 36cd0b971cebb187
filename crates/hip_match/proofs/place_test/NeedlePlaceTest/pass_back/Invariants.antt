use Rattle.std.proofs.Common.{◌≤◌}
use Rattle.memchr.specs.Find.{Nowhere}
use Rattle.hip_match.specs.Marks.{PassesAt, stands}
use Rattle.hip_match.specs.Needles.{bytes_of}
use Rattle.hip_match.proofs.place_test.NeedlePlaceTest.pass_back.Given as goal

abbrev pub invariant-loop-stop : goal.invariant-loop-stop
invariant-loop-stop l = (l.stop ≤ l.to) × Nowhere (PassesAt (stands (bytes_of l.self)) l.bytes) l.stop l.to

abbrev pub decreases-loop-stop : goal.decreases-loop-stop
decreases-loop-stop l = l.stop
