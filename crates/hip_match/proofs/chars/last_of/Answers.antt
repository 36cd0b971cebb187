use Rattle.std.proofs.Common.{sym, ◌∙◌, arith}
use Rattle.hip_match.proofs.SetLemmas.{last_step}
use Rattle.hip_match.proofs.chars.last_of.Goals as goal

pub loop-c-preserved : goal.loop-c-preserved
loop-c-preserved g c =
    let before = c.in-Some.ensures.before in
    (c.in-Some.ensures.boundary, omega (arith, c.loop-c.invariant.1), last_step _ c.args.text.now c.utf8.text _ _ _ c.in-Some.ensures (sym c.has.ensures ∙ c.if-has.false) c.loop-c.invariant.2)
