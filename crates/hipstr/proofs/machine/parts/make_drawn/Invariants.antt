use Rattle.std.proofs.Common.{◌≡◌, map, drop}
use Rattle.hip_match.specs.Draw.{draw}
use Rattle.hipstr.specs.Slot.{state_of}
use Rattle.hipstr.proofs.Parts.{SoFar}
use Rattle.hipstr.proofs.machine.parts.make_drawn.Given as goal

-- the parts so far stand in the first slots, and the walk and the rest of the script give the others
abbrev pub invariant-loop-i : goal.invariant-loop-i
invariant-loop-i g l = record {
  so_far : SoFar g.B.Backend.SHARES l.initial.walk.source (draw l.initial.walk.rest l.script) (draw l.walk.rest (drop l.i l.script))
      l.i (map state_of l.spare) l.initial.meter l.meter;
  source : l.walk.source ≡ l.initial.walk.source;
}
