use Rattle.std.proofs.Common.{◌++◌, ◌∙◌, ap, append_assoc}
use Rattle.hip_script.proofs.Appended.{appends-then}
use Rattle.hip_script.proofs.print.write_rest.Goals as goal

pub loop-turn-preserved : goal.loop-turn-preserved
loop-turn-preserved g c =
    let so_far = c.loop-turn.invariant in
    let more = c.in_ok-rest.ensures.written in (
      so_far.0 ++ more.0,
      append_assoc so_far.0 more.0 c.in_ok-rest.rest.now ∙ ap (λ t. so_far.0 ++ t) more.1 ∙ so_far.1,
      appends-then _ _ _ so_far.0 more.0 so_far.2 more.2,
    )
