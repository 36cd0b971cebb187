use Rattle.std.proofs.Common.{sym, ◌∙◌}
use Rattle.std.specs.Char.{is_ascii_whitespace}
use Rattle.hip_match.proofs.ByteLemmas.{back_end}
use Rattle.hip_match.proofs.bytes.back_of.Goals as goal

pub returns-else-is_ascii_whitespace-clause-back : goal.returns-else-is_ascii_whitespace-clause-back
returns-else-is_ascii_whitespace-clause-back c =
    back_end is_ascii_whitespace c.args.bytes.now c.args.from c.loop-to.to c.loop-to.invariant.0 c.loop-to.invariant.2 (λ lt. sym c.is_ascii_whitespace.ensures.value ∙ c.if-is_ascii_whitespace.false)
