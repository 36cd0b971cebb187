use Rattle.std.proofs.Common.{◌-◌, ◌≤◌, length}
use Rattle.memchr.specs.Find.{Nowhere}
use Rattle.hip_match.specs.Marks.{PassesAt, stands}
use Rattle.hip_match.specs.Needles.{bytes_of}
use Rattle.hip_match.proofs.place_test.NeedlePlaceTest.pass.Given as goal

abbrev pub invariant-loop-start : goal.invariant-loop-start
invariant-loop-start l = (l.from ≤ l.start) × (l.start ≤ length l.bytes) × Nowhere (PassesAt (stands (bytes_of l.self)) l.bytes) l.from l.start

abbrev pub decreases-loop-start : goal.decreases-loop-start
decreases-loop-start l = l.last - l.start
