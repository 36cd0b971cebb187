use Rattle.std.proofs.Common.{◌∙◌, ap, subst, List, ℕ}
use Rattle.hip_match.specs.Pieces.{gaps, InOrder}
use Rattle.hip_match.proofs.PiecesLemmas.{gaps-append, InOrder-append, IsBetween-moved}
use Rattle.hip_match.proofs.split.SplitRangesBack.next_back.Goals as goal

pub returns-in-Some-clause-last : goal.returns-in-Some-clause-last
returns-in-Some-clause-last g c = rw c.if-self.false (ap (λ l. gaps c.args.self.now.start l c.args.self.now.end) c.in-Some.ensures.last ∙ gaps-append _ _ _ _)

pub returns-in-Some-clause-cut : goal.returns-in-Some-clause-cut
returns-in-Some-clause-cut g c =
    let order = InOrder-append _ _ _ _ (subst (λ (l : List (ℕ × ℕ)). InOrder c.args.self.now.start l c.args.self.now.end) c.in-Some.ensures.last c.requires.1.in_order) in
    record { start = c.in-Some.ensures.cut.end; end = c.requires.1.end; ordered = order.2 }

pub returns-in-Some-clause-ready : goal.returns-in-Some-clause-ready
returns-in-Some-clause-ready g c =
    let order = InOrder-append _ _ _ _ (subst (λ (l : List (ℕ × ℕ)). InOrder c.args.self.now.start l c.args.self.now.end) c.in-Some.ensures.last c.requires.1.in_order) in
    (c.in-Some.ensures.ready, IsBetween-moved _ _ _ _ _ c.in-Some.ensures.text (record { start = c.requires.1.start; end = c.in-Some.ensures.cut.start; in_order = order.0 }))
