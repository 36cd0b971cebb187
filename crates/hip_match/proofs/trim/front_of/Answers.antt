use Rattle.std.proofs.Common.{sym, ◌∙◌, arith}
use Rattle.std.proofs.lemmas.Option.{none-some, same_Some}
use Rattle.hip_match.proofs.TrimLemmas.{sequence_more, TrimsFront-stuck}
use Rattle.hip_match.proofs.trim.front_of.Goals as goal

pub loop-end-smaller : goal.loop-end-smaller
loop-end-smaller g c =
    let here = g.met.P.Pattern.spans _ _ _ _ c.utf8.text (sym c.in-Some.ensures) in
    omega (arith, here.ordered, here.end.0, c.if-end-at.false)

pub loop-end-preserved : goal.loop-end-preserved
loop-end-preserved g c =
    let here = g.met.P.Pattern.spans _ _ _ _ c.utf8.text (sym c.in-Some.ensures) in
    (here.end, sequence_more _ _ _ _ c.loop-end.invariant.1 (sym c.in-Some.ensures) (omega (arith, here.ordered, c.if-end-at.false)))

pub returns-then-end-at-clause-front : goal.returns-then-end-at-clause-front
returns-then-end-at-clause-front g c = TrimsFront-stuck _ _ c.loop-end.invariant.1 (λ b is. omega (arith, same_Some _ _ (sym is ∙ sym c.in-Some.ensures), c.if-end-at.true))

pub returns-in_default-clause-front : goal.returns-in_default-clause-front
returns-in_default-clause-front g c = TrimsFront-stuck _ _ c.loop-end.invariant.1 (λ b is. absurd (none-some b (c.in_default.ensures ∙ is)))
