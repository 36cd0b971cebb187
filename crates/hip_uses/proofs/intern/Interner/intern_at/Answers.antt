use Rattle.std.proofs.Common.{ℕ, ◌∙◌, List, refl, subst, arith}
use Rattle.hipstr.specs.Occurrence.{IsCut}
use Rattle.hip_uses.proofs.InternCosts.{costs-on}
use Rattle.hip_uses.proofs.Words.{kept-interned, walked-none, walked-on, walked-some}
use Rattle.hip_uses.proofs.intern.Interner.intern_at.Goals as goal

pub loop-start-init : goal.loop-start-init
loop-start-init g c = record { ready = c.requires.ready; text = c.requires.text; walked = rw c.new-numbers.ensures.items (walked-none c.args.self.now c.args.text.now.items (g.I.Ranges.rest c.args.ranges)); never_falls = omega arith; at_most = omega arith }

pub loop-start-preserved-in_ok-push : goal.loop-start-preserved-in_ok-push
loop-start-preserved-in_ok-push g c = record {
  ready = c.next.ensures.ready;
  text = c.next.ensures.text ∙ c.loop-start.invariant.text;
  walked = walked-on _ _ _ _ _ _ _ _ _ (c.in-Some.start, c.in-Some.end) _ c.loop-start.invariant.walked c.in-Some.ensures.first
      (subst (λ (t : List ℕ). IsCut t (c.in-Some.start, c.in-Some.end)) c.loop-start.invariant.text c.in-Some.ensures.cut) c.if-start-end.true
      c.in_ok-intern_part.ensures.texts c.in_ok-intern_part.ensures.number c.in_ok-push.ensures.items;
  never_falls = omega (arith, c.loop-start.invariant.never_falls, c.in_ok-intern_part.ensures.counted.never_falls);
  at_most = costs-on g.B.Backend.SHARES c.args.text.now.kind _ _ c.args.text.now.items _ _ (c.in-Some.start, c.in-Some.end) _ _ _
      (subst (λ (t : List ℕ). IsCut t (c.in-Some.start, c.in-Some.end)) c.loop-start.invariant.text c.in-Some.ensures.cut) c.in-Some.ensures.first c.if-start-end.true
      c.in_ok-intern_part.ensures.texts c.loop-start.invariant.at_most c.in_ok-intern_part.ensures.counted;
}

pub returns-in_err-push-clause-kept : goal.returns-in_err-push-clause-kept
returns-in_err-push-clause-kept g c = rw c.in_ok-intern_part.ensures.texts (kept-interned c.args.self.now c.loop-start.self _ c.loop-start.invariant.walked.kept)

pub returns-in_err-intern_part-clause-front : goal.returns-in_err-intern_part-clause-front
returns-in_err-intern_part-clause-front g c = rw c.in_err-intern_part.ensures.refused (walked-some _ _ _ _ _ _ c.loop-start.invariant.walked)

pub returns-in_err-push-clause-front : goal.returns-in_err-push-clause-front
returns-in_err-push-clause-front g c =
    walked-some _ _ _ _ _ _ (walked-on _ _ _ _ _ _ _ _ _ (c.in-Some.start, c.in-Some.end) _ c.loop-start.invariant.walked c.in-Some.ensures.first
    (subst (λ (t : List ℕ). IsCut t (c.in-Some.start, c.in-Some.end)) c.loop-start.invariant.text c.in-Some.ensures.cut) c.if-start-end.true c.in_ok-intern_part.ensures.texts c.in_ok-intern_part.ensures.number refl)

pub returns-clause-front : goal.returns-clause-front
returns-clause-front g c = walked-some _ _ _ _ _ _ c.loop-start.invariant.walked
