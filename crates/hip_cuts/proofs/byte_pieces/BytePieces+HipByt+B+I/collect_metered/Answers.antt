use Rattle.std.proofs.Common.{◌∙◌, ◌+◌, List, [], ◌∷◌, subst}
use Rattle.std.proofs.lemmas.List.{append-nil, append_assoc}
use Rattle.hip_text.specs.Handle.{Handle}
use Rattle.hip_cuts.proofs.Costs.{drawn-cost}
use Rattle.hip_cuts.specs.Piece.{AreParts, PartAnswers, parts_cost}
use Rattle.hip_cuts.proofs.byte_pieces.BytePieces+HipByt+B+I.collect_metered.Goals as goal

pub loop-piece-preserved : goal.loop-piece-preserved
loop-piece-preserved g c =
    let first = c.in-Some.ensures.first in
    let counted = c.in-Some.ensures.counted in
    let cost = drawn-cost g.B.Backend.SHARES c.loop-piece.self c.next_metered.new.self c.args.self.source counted.0 c.args.meter.now c.loop-piece.meter c.next_metered.new.meter
    (c.args.meter.now + parts_cost g.B.Backend.SHARES c.args.self.source c.args.self.rest) c.loop-piece.invariant.source counted.1 counted.2 c.loop-piece.invariant.never_falls c.loop-piece.invariant.at_most in
    let made = subst (λ result. PartAnswers c.loop-piece.self.source first.0 result) c.in_ok-piece.was first.3 in
    record {
      source = c.in-Some.ensures.source ∙ c.loop-piece.invariant.source;
      parts = λ more are. rw (c.in_ok-push.ensures.items, append_assoc c.loop-piece.pieces.items (c.in_ok-piece.field-0 ∷ []) more)
          (c.loop-piece.invariant.parts (c.in_ok-piece.field-0 ∷ more) (rw (first.1, ← c.loop-piece.invariant.source) (made, are)));
      never_falls = cost.0;
      at_most = cost.1;
    }

pub returns-clause-pieces : goal.returns-clause-pieces
returns-clause-pieces g c =
    subst (λ (parts : List Handle). AreParts c.args.self.source c.args.self.rest parts) (append-nil c.loop-piece.pieces.items)
    (c.loop-piece.invariant.parts [] (rw c.in_default.ensures.first.0 tt))
