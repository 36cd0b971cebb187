use Rattle.std.proofs.Common.{◌≡◌, ◌+◌, ◌-◌, None, Some, arith, length, min, true≢false, sym, ◌∙◌}
use Rattle.hip_match.proofs.TextLemmas.{front-found, front-none, front-room, front-tried, front-whole, rest_slice}
use Rattle.hip_match.proofs.texts.first_place.Goals as goal

pub returns-in_err-at-clause-found : goal.returns-in_err-at-clause-found
returns-in_err-at-clause-found c = rw c.from_residual.ensures (front-none c.args.bytes.now c.args.needle.now c.args.part c.requires.part _ _ c.loop-tries.invariant.2 (rw c.min.ensures at c.in_err-at.ensures.found))

pub returns-then-width-gt1-clause-found : goal.returns-then-width-gt1-clause-found
returns-then-width-gt1-clause-found c = front-whole c.args.bytes.now c.args.needle.now c.args.part c.requires.part _ _ c.loop-tries.invariant.2 _ (rw c.min.ensures at c.in_ok-at.ensures.found).0 c.loop-tries.invariant.0 (c.stands_whole.ensures.0 c.if-stands_whole.true).1

pub returns-else-width-gt1-clause-found : goal.returns-else-width-gt1-clause-found
returns-else-width-gt1-clause-found c = front-whole c.args.bytes.now c.args.needle.now c.args.part c.requires.part _ _ c.loop-tries.invariant.2 _ (rw c.min.ensures at c.in_ok-at.ensures.found).0 c.loop-tries.invariant.0 (c.stands_whole.ensures.0 c.if-stands_whole.true).1

pub loop-tries-preserved : goal.loop-tries-preserved
loop-tries-preserved c =
    let found = (rw c.min.ensures at c.in_ok-at.ensures.found).0 in
    let tried = c.loop-tries.invariant in
    let high = found.high in
    let room = front-room c.args.bytes.now c.args.needle.now c.args.part c.requires.part _ _ tried.2 _ found in
    let next : min (length c.args.bytes.now) (c.in_ok-at.at - c.args.part.lead + 1 + c.args.part.lead) ≡ c.in_ok-at.at + 1 = omega (arith, room, high) in (
      omega (arith, tried, room),
      omega (arith, room, high),
      front-tried c.args.bytes.now c.args.needle.now c.args.part c.requires.part _ _ tried.2 _ found (λ h. true≢false (sym (c.stands_whole.ensures.1 h) ∙ c.if-stands_whole.false)),
      rw next c.in_ok-at.ensures.ahead,
    )

pub returns-in_err-start-clause-found : goal.returns-in_err-start-clause-found
returns-in_err-start-clause-found c =
    let tried = c.loop-tries.invariant in
    rw c.from_residual-in_err-start.ensures (front-found c.args.bytes.now c.args.needle.now c.args.part c.requires.part _ _ tried.2 None (omega (arith, c.requires.part.0)) tried.0 tried.1 (rw rest_slice at c.in_err-start.ensures))

pub returns-clause-found : goal.returns-clause-found
returns-clause-found c =
    let tried = c.loop-tries.invariant in
    front-found c.args.bytes.now c.args.needle.now c.args.part c.requires.part _ _ tried.2 (Some _) (omega (arith, c.requires.part.0)) tried.0 tried.1 (rw rest_slice at c.in_ok-start.ensures)
