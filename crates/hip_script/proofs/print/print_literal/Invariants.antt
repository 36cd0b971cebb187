use Rattle.std.proofs.Common.{◌≤◌, length}
use Rattle.hip_script.proofs.Literals.{PrintsSoFar}
use Rattle.hip_script.proofs.print.print_literal.Given as goal

abbrev pub invariant-loop-at : goal.invariant-loop-at
invariant-loop-at g l = record {
  so_far : PrintsSoFar (g.W.Write.contents l.fn.out) (g.W.Write.contents l.out) l.rest l.bytes;
  short : length l.rest ≤ length l.bytes;
}

abbrev pub decreases-loop-at : goal.decreases-loop-at
decreases-loop-at g l = length l.rest
