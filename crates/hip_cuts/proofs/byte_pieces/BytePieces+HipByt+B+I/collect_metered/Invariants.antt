use Rattle.std.proofs.Common.{◌≡◌, ◌+◌, ◌≤◌, ◌++◌, List, length}
use Rattle.hip_text.specs.Handle.{Handle}
use Rattle.hip_cuts.specs.Piece.{AreParts, parts_cost}
use Rattle.hip_cuts.proofs.byte_pieces.BytePieces+HipByt+B+I.collect_metered.Given as goal

-- with the parts at the ranges that are left, these are the parts at all
abbrev pub invariant-loop-piece : goal.invariant-loop-piece
invariant-loop-piece g l =
    let all = l.initial.self in
    record {
      source : l.self.source ≡ all.source;
      parts : (more : List Handle) → AreParts all.source l.self.rest more → AreParts all.source all.rest (l.pieces.items ++ more);
      never_falls : l.initial.meter ≤ l.meter;
      at_most : l.meter + parts_cost g.B.Backend.SHARES all.source l.self.rest ≤ l.initial.meter + parts_cost g.B.Backend.SHARES all.source all.rest;
    }

abbrev pub decreases-loop-piece : goal.decreases-loop-piece
decreases-loop-piece g l = length l.self.rest
