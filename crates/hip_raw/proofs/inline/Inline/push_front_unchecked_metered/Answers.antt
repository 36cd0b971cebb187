use Rattle.std.proofs.Common.{◌++◌, ◌∙◌, ap, ap₂, sym, take, take-take}
use Rattle.hip_raw.proofs.Rooms.{both_are, goes_on_within}
use Rattle.hip_raw.proofs.inline.Inline.push_front_unchecked_metered.Goals as goal

pub returns-clause-items : goal.returns-clause-items
returns-clause-items g c =
    let cut = c.split_at_mut-front.ensures in
    let xs = c.self.inside.row.cells.items in
    let there = goes_on_within _ _ _ _ _ _ c.self.invariant.0 c.self.invariant.1 c.self.view_is c.get-start.ensures c.requires.there in
    let front = ap (λ k. take k xs) c.get-start.ensures ∙ c.self.view_is in
    ap (λ k. take k (c.split_at_mut-front.result.0.now ++ c.fill.new.room)) c.of-self-inside.ensures ∙ both_are _ _ _ _ _ _ there cut.front_len cut.front c.fill.ensures.items
    ∙ ap₂ (λ f h. f ++ h) front (sym (ap (take c.args.count) (sym front) ∙ take-take c.args.count c.get-start.result xs there))
