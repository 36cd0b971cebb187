use Rattle.std.proofs.Common.{◌-◌, length}
use Rattle.hip_uses.specs.Turns.{TurnsAhead}
use Rattle.hip_uses.proofs.tokens.turns.Turns.next.Given as goal

abbrev pub invariant-loop-first : goal.invariant-loop-first
invariant-loop-first l = TurnsAhead l.bytes l.from l.self.upto l.self.turns

abbrev pub decreases-loop-first : goal.decreases-loop-first
decreases-loop-first l = length l.bytes - l.self.upto
