use Rattle.std.proofs.Common.{◌∙◌, ◌+◌, ℕ, List, [], ◌∷◌, refl, subst}
use Rattle.std.proofs.lemmas.List.{append-nil, append_assoc}
use Rattle.hip_text.specs.Handle.{Handle}
use Rattle.hip_cuts.proofs.Costs.{drawn-cost}
use Rattle.hip_cuts.specs.Piece.{AreMatches, PartAnswers, parts_cost}
use Rattle.hip_cuts.proofs.pieces.Pieces+HipStr+B+I.collect_matches.Goals as goal

pub loop-position-preserved : goal.loop-position-preserved
loop-position-preserved g c =
    let first = c.in-Some.ensures.first in
    let counted = c.in-Some.ensures.counted in
    let cost = drawn-cost g.B.Backend.SHARES c.loop-position.self c.first_match.new.self c.args.self.source counted.0 c.args.meter.now c.loop-position.meter c.first_match.new.meter
    (c.args.meter.now + parts_cost g.B.Backend.SHARES c.args.self.source c.args.self.rest) c.loop-position.invariant.source counted.1 counted.2 c.loop-position.invariant.never_falls c.loop-position.invariant.at_most in
    let match : ℕ × Handle = (c.in-Some.position, c.in_ok-part.field-0) in
    let made = subst (λ result. PartAnswers c.loop-position.self.source (c.in-Some.position, first.0) result) c.in_ok-part.was first.3 in
    record {
      source = c.in-Some.ensures.source ∙ c.loop-position.invariant.source;
      parts = λ more are. rw (c.in_ok-push.ensures.items, append_assoc c.loop-position.matches.items (match ∷ []) more)
          (c.loop-position.invariant.parts (match ∷ more) (rw (first.1, ← c.loop-position.invariant.source) ((refl, made), are)));
      never_falls = cost.0;
      at_most = cost.1;
    }

pub returns-clause-matches : goal.returns-clause-matches
returns-clause-matches g c =
    subst (λ (matches : List (ℕ × Handle)). AreMatches c.args.self.source c.args.self.rest matches) (append-nil c.loop-position.matches.items)
    (c.loop-position.invariant.parts [] (rw c.in_default.ensures.first.0 tt))
