use Rattle.std.proofs.Common.{◌+◌, ◌-◌, ◌≤◌, length, min}
use Rattle.memchr.specs.Find.{Nowhere, OccursAt}
use Rattle.hip_match.specs.Marks.{Ahead, stands}
use Rattle.hip_match.specs.Needles.{bytes_of}
use Rattle.hip_match.proofs.texts.first_place.Given as goal

-- the places before `past` are tried
abbrev pub invariant-loop-tries : goal.invariant-loop-tries
invariant-loop-tries l = (l.from ≤ l.past) × (l.past ≤ length l.bytes) × Nowhere (OccursAt l.bytes l.needle) l.from l.past × Ahead (stands (bytes_of l.part.needle)) l.bytes (min (length l.bytes) (l.past + l.part.lead)) l.front.next l.front.bits

abbrev pub decreases-loop-tries : goal.decreases-loop-tries
decreases-loop-tries l = 4 - l.tries
