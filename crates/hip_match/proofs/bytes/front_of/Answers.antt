use Rattle.std.proofs.Common.{sym, ◌∙◌, arith}
use Rattle.std.specs.Char.{is_ascii_whitespace}
use Rattle.hip_match.proofs.ByteLemmas.{front_end}
use Rattle.hip_match.proofs.bytes.front_of.Goals as goal

pub returns-else-is_ascii_whitespace-clause-front : goal.returns-else-is_ascii_whitespace-clause-front
returns-else-is_ascii_whitespace-clause-front c =
    front_end is_ascii_whitespace c.args.bytes.now c.loop-at.at c.loop-at.invariant.1 (λ lt. sym c.is_ascii_whitespace.ensures.value ∙ c.if-is_ascii_whitespace.false)

pub returns-after-loop-at-clause-front : goal.returns-after-loop-at-clause-front
returns-after-loop-at-clause-front c =
    front_end is_ascii_whitespace c.args.bytes.now c.loop-at.at c.loop-at.invariant.1 (λ lt. absurd (omega (arith, c.loop-at-test.false, lt)))
