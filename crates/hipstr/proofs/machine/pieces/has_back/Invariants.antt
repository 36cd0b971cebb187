use Rattle.std.proofs.Common.{◌≡◌, drop}
use Rattle.hipstr.specs.Cut.{has_back}
use Rattle.hipstr.proofs.machine.pieces.has_back.Given as goal

-- no end so far is the back
abbrev pub invariant-loop-end : goal.invariant-loop-end
invariant-loop-end l = has_back (drop l.end-index l.script) ≡ has_back l.script
