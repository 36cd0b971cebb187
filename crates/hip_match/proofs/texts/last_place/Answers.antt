use Rattle.std.proofs.Common.{None, Some, arith, true≢false, sym, ◌∙◌}
use Rattle.hip_match.proofs.TextLemmas.{back-found, back-none, back-tried, back-whole}
use Rattle.hip_match.proofs.texts.last_place.Goals as goal

pub returns-in_err-at-clause-found : goal.returns-in_err-at-clause-found
returns-in_err-at-clause-found c = rw c.from_residual.ensures (back-none c.args.bytes.now c.args.needle.now c.args.part c.requires.part _ _ c.loop-tries.invariant.1 c.in_err-at.ensures.found)

pub returns-then-stands_whole-clause-found : goal.returns-then-stands_whole-clause-found
returns-then-stands_whole-clause-found c = back-whole c.args.bytes.now c.args.needle.now c.args.part c.requires.part _ _ c.loop-tries.invariant.1 _ c.in_ok-at.ensures.found.0 c.loop-tries.invariant.0 (c.stands_whole.ensures.0 c.if-stands_whole.true)

pub loop-tries-preserved : goal.loop-tries-preserved
loop-tries-preserved c =
    let found = c.in_ok-at.ensures.found.0 in
    let high = found.high in
    (omega (arith, high, c.loop-tries.invariant), back-tried c.args.bytes.now c.args.needle.now c.args.part c.requires.part _ _ c.loop-tries.invariant.1 _ found (λ h. true≢false (sym (c.stands_whole.ensures.1 h) ∙ c.if-stands_whole.false)), c.in_ok-at.ensures.behind)

pub returns-in_err-start-clause-found : goal.returns-in_err-start-clause-found
returns-in_err-start-clause-found c = rw c.from_residual-in_err-start.ensures (back-found c.args.bytes.now c.args.needle.now c.args.part c.requires.part _ _ c.loop-tries.invariant.1 _ None c.loop-tries.invariant.0 (omega (arith, c.min.ensures)) (omega (arith, c.min.ensures)) (λ k fits le. omega (arith, c.min.ensures)) c.in_err-start.ensures)

pub returns-clause-found : goal.returns-clause-found
returns-clause-found c = back-found c.args.bytes.now c.args.needle.now c.args.part c.requires.part _ _ c.loop-tries.invariant.1 _ (Some _) c.loop-tries.invariant.0 (omega (arith, c.min.ensures)) (omega (arith, c.min.ensures)) (λ k fits le. omega (arith, c.min.ensures)) c.in_ok-start.ensures
