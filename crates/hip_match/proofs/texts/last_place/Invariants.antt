use Rattle.std.proofs.Common.{◌-◌, ◌≤◌, length}
use Rattle.hip_match.specs.Marks.{Behind, stands}
use Rattle.hip_match.specs.Needles.{bytes_of}
use Rattle.hip_match.proofs.TextLemmas.{PartBefore}
use Rattle.hip_match.proofs.texts.last_place.Given as goal

-- the places from `stop` on are tried
abbrev pub invariant-loop-tries : goal.invariant-loop-tries
invariant-loop-tries l = (l.stop ≤ l.to - (length l.needle - 1 - l.part.lead)) × PartBefore l.bytes l.needle l.part.lead l.to l.stop × Behind (stands (bytes_of l.part.needle)) l.bytes l.stop l.back.start l.back.bits

abbrev pub decreases-loop-tries : goal.decreases-loop-tries
decreases-loop-tries l = 4 - l.tries
