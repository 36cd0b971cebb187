use Rattle.std.proofs.Common.{◌-◌, ◌≤◌, length}
use Rattle.memchr.specs.Find.{Nowhere}
use Rattle.hip_match.specs.Marks.{PassesAt}
use Rattle.hip_match.proofs.marks.FrontMarks.read.Given as goal

-- no place from `from` on passes before `next`
abbrev pub invariant-loop-start : goal.invariant-loop-start
invariant-loop-start g l = (l.fn.self.next ≤ l.next) × (l.next ≤ length l.bytes) × Nowhere (PassesAt (g.T.PlaceTest.places l.test) l.bytes) l.from l.next × Nowhere (PassesAt (g.T.PlaceTest.places l.test) l.bytes) l.next l.from

abbrev pub decreases-loop-start : goal.decreases-loop-start
decreases-loop-start g l = length l.bytes - l.next
