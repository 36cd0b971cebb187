use Rattle.std.proofs.Common.{◌∙◌, ap}
use Rattle.hip_raw.specs.Held.{held_items}
use Rattle.hip_raw.proofs.Windows.{pushed, pushed_len}
use Rattle.hip_raw.proofs.allocated.Allocated.push_slice_metered.Goals as goal

pub returns-in-Done-clause-items : goal.returns-in-Done-clause-items
returns-in-Done-clause-items g c =
    let view = ap held_items c.self.view_is in
    let all = pushed_len _ _ _ _ _ _ _ _ c.self.invariant.within view c.start-start.ensures c.len-len.ensures.len c.in-Done.ensures.items in
    rw c.in-Done.is (pushed _ _ _ _ _ _ _ _ c.self.invariant.within view c.start-start.ensures c.len-len.ensures.len c.in-Done.ensures.items _ _ c.of-self-inside.ensures.start
    (ap (g.B.Extent.Extent.len_of c.of-self-inside.result) all ∙ c.of-self-inside.ensures.len))
