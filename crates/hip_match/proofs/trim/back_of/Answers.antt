use Rattle.std.proofs.Common.{sym, ◌∙◌, arith}
use Rattle.std.proofs.lemmas.Option.{none-some}
use Rattle.hip_match.proofs.TrimLemmas.{sequence_back_more, TrimsBack-stuck, start_of-is, start_of-one}
use Rattle.hip_match.proofs.trim.back_of.Goals as goal
use Rattle.hip_match.proofs.trim.back_of.Goals.{then-start-to-via-then-start-to, then-start-to-via-else-start-to+then-start-from}

pub loop-start-smaller : goal.loop-start-smaller
loop-start-smaller g c =
    let here = g.met.P.Pattern.spans _ _ _ _ c.utf8.text (start_of-is _ _ _ (sym c.in-Some.ensures)) in
    omega (arith, here.ordered, c.if-start-to.false)

pub loop-start-preserved : goal.loop-start-preserved
loop-start-preserved g c =
    let is = start_of-is _ _ _ (sym c.in-Some.ensures) in
    let here = g.met.P.Pattern.spans _ _ _ _ c.utf8.text is in
    (here.start, c.if-start-from.false, sequence_back_more _ _ _ _ c.loop-start.invariant.2 is (omega (arith, here.ordered, c.if-start-to.false)))

pub returns-then-start-to-clause-back : goal.returns-then-start-to-clause-back
returns-then-start-to-clause-back g c =
    let utf8 = c.utf8.text in
    let is = start_of-is _ _ _ (sym c.in-Some.ensures) in
    TrimsBack-stuck _ _ _ _ (λ a b d. g.met.P.ReversePattern.one_start _ _ a b d utf8) c.loop-start.invariant.1 c.loop-start.invariant.2
    (λ a other low.
    let same = g.met.P.ReversePattern.one_start _ _ a _ _ utf8 other is in
    elim c.then-start-to.branch [
      | then-start-to-via-then-start-to w ↦ omega (arith, same, w.if-start-to.true)
      | then-start-to-via-else-start-to+then-start-from w ↦ absurd (omega (arith, same, w.if-start-from.true))
    ])

pub returns-in_default-clause-back : goal.returns-in_default-clause-back
returns-in_default-clause-back g c =
    TrimsBack-stuck _ _ _ _ (λ a b d. g.met.P.ReversePattern.one_start _ _ a b d c.utf8.text) c.loop-start.invariant.1 c.loop-start.invariant.2
    (λ a is low. absurd (none-some a (c.in_default.ensures ∙ start_of-one _ _ a (λ b d k. g.met.P.ReversePattern.one_start _ _ b d k c.utf8.text) (λ k m h. (g.met.P.Pattern.spans _ _ k m c.utf8.text h).ordered) is)))
