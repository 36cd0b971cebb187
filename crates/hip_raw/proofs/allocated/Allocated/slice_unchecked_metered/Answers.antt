-- The part of the owner's list is the part of the window: their positions are summed.
use Rattle.std.proofs.Common.{sym, ap, ◌∙◌, ◌≤◌, ◌-◌, ℕ, take, drop, length, arith}
use Rattle.std.proofs.lemmas.List.{length-take}
use Rattle.hip_raw.proofs.Windows.{slice_of_window}
use Rattle.hip_raw.proofs.allocated.Allocated.slice_unchecked_metered.Goals as goal

pub returns-clause-items : goal.returns-clause-items
returns-clause-items g c =
    let shown = rw (← c.self.view_is) at c.requires.in_bounds in
    let whole = g.B.Backend.items c.self.inside.owner in
    let n = g.B.Extent.Extent.len_of c.self.inside.extent (length whole) in
    let short : c.args.range.end ≤ n = omega (arith, length-take {A = ℕ}, shown) in
    let s = c.args.range.start in
    let e = c.args.range.end in
    let from = ap (λ a. take (e - s) (drop s (take n (drop a whole)))) c.start.ensures in
    rw (← c.self.view_is) (c.from_parts.ensures.items ∙ c.in_ok-owner.ensures.items ∙ sym (slice_of_window whole c.start.result n s e c.requires.start_le_end short) ∙ from)
