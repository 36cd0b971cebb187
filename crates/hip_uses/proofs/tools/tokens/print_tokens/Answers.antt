use Rattle.std.proofs.Common.{◌++◌}
use Rattle.hip_uses.proofs.Appended.{appends-then}
use Rattle.hip_uses.proofs.TokenLines.{tokens-next}
use Rattle.hip_uses.proofs.tools.tokens.print_tokens.Goals as goal

pub loop-token-preserved : goal.loop-token-preserved
loop-token-preserved g c =
    let so_far = c.loop-token.invariant in
    let next = c.in_ok-print_token.ensures in (
      so_far.0 ++ next.0,
      tokens-next c.args.tokens.now c.loop-token.token-index c.token-item.result c.as_str.result.now so_far.0 next.0 c.loop-token-test.true c.token-item.is c.as_str.ensures.items so_far.1 next.1,
      appends-then _ _ _ _ _ so_far.2 next.2,
    )
