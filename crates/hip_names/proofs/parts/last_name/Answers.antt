use Rattle.std.proofs.Common.{arith, ap, sym, ◌≡◌, ◌≤◌, ◌<◌, ◌-◌, ◌∙◌, get_or, take}
use Rattle.std.proofs.lemmas.Grind.{common_steps}
use Rattle.hip_names.specs.Components.{names}
use Rattle.hip_names.proofs.LastNames.{names-passed, IsWhole}
use Rattle.std.specs.Path.{slash}
use Rattle.hip_names.proofs.parts.last_name.Goals as goal

pub loop-end-preserved : goal.loop-end-preserved
loop-end-preserved c =
    let path = c.args.path.now in
    let start = c.behind_last-start.result in
    let end = c.loop-end.end in
    let whole : IsWhole path start end = λ k from below. grind (arith, common_steps, c.behind_last-start.ensures.none_behind k) in
    let at : 0 < start → get_or path (start - 1) 0 ≡ slash = λ some. grind (arith, common_steps, c.behind_last-start.ensures.there) in
    let ordered : start ≤ end = grind (arith, common_steps) in
    let unnamed = c.names_something.ensures in
    (grind (arith, common_steps), λ some within. grind (arith, at), ap (λ k. names (take k path)) (c.saturating_sub-end.ensures) ∙ names-passed path start end ordered (c.loop-end.invariant.0) whole at (sym unnamed ∙ c.if-names_something.false) ∙ c.loop-end.invariant.2)
