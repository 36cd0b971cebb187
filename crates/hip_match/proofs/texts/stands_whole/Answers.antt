use Rattle.std.proofs.Common.{eq-eqb}
use Rattle.hip_match.proofs.TextLemmas.{whole}
use Rattle.hip_match.proofs.texts.stands_whole.Goals as goal

pub returns-then-needle-reach : goal.returns-then-needle-reach
returns-then-needle-reach c = (λ _. whole c.args.bytes.now c.args.needle.now c.args.part c.requires.part c.args.at (rw c.reach.ensures.value at c.if-needle-reach.true) c.requires.stands, λ _. eq-eqb _ _ c.if-needle-reach.true)
