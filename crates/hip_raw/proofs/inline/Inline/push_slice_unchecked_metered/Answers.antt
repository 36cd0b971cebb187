use Rattle.std.proofs.Common.{◌∙◌, ap, arith, take}
use Rattle.hip_raw.proofs.Rooms.{put_behind}
use Rattle.hip_raw.proofs.inline.Inline.push_slice_unchecked_metered.Goals as goal

pub returns-clause-items : goal.returns-clause-items
returns-clause-items g c =
    put_behind c.self.inside.row.cells.items c.args.addition.now _ _ _ _ _ _ c.fill.ensures.items c.of-self-inside.ensures
    (omega (arith, c.self.invariant.0, c.self.invariant.1, c.get-start.ensures)) (ap (λ k. take k c.self.inside.row.cells.items) c.get-start.ensures ∙ c.self.view_is)
