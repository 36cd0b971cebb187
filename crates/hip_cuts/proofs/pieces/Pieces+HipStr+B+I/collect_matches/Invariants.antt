use Rattle.std.proofs.Common.{◌≡◌, ℕ, ◌+◌, ◌≤◌, ◌++◌, List, length}
use Rattle.hip_text.specs.Handle.{Handle}
use Rattle.hip_cuts.specs.Piece.{AreMatches, parts_cost}
use Rattle.hip_cuts.proofs.pieces.Pieces+HipStr+B+I.collect_matches.Given as goal

-- with the matches at the ranges that are left, these are the matches at all
abbrev pub invariant-loop-position : goal.invariant-loop-position
invariant-loop-position g l =
    let all = l.initial.self in
    record {
      source : l.self.source ≡ all.source;
      parts : (more : List (ℕ × Handle)) → AreMatches all.source l.self.rest more → AreMatches all.source all.rest (l.matches.items ++ more);
      never_falls : l.initial.meter ≤ l.meter;
      at_most : l.meter + parts_cost g.B.Backend.SHARES all.source l.self.rest ≤ l.initial.meter + parts_cost g.B.Backend.SHARES all.source all.rest;
    }

abbrev pub decreases-loop-position : goal.decreases-loop-position
decreases-loop-position g l = length l.self.rest
