use Rattle.std.proofs.Common.{◌≤◌, length}
use Rattle.memchr.specs.Find.{Nowhere}
use Rattle.hip_match.specs.Marks.{PassesAt}
use Rattle.hip_match.proofs.marks.BackMarks.read.Given as goal

-- no place before `to` passes from `start` on
abbrev pub invariant-loop-stop : goal.invariant-loop-stop
invariant-loop-stop g l = (l.start ≤ l.fn.self.start) × (l.start ≤ length l.bytes) × Nowhere (PassesAt (g.T.PlaceTest.places l.test) l.bytes) l.start l.to × Nowhere (PassesAt (g.T.PlaceTest.places l.test) l.bytes) l.to l.start

abbrev pub decreases-loop-stop : goal.decreases-loop-stop
decreases-loop-stop g l = l.start
