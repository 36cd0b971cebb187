use Rattle.std.proofs.Common.{refl, subst, ◌≡◌, ◌≤◌, ◌∙◌, length, take, ap, sym}
use Rattle.std.specs.List.{refill}
use Rattle.hip_raw.proofs.Windows.{refill-front}
use Rattle.hip_raw.proofs.inline.Inline.as_mut_slice.Goals as goal

pub returns : goal.returns
returns g c =
    let m = g.L.Length.count_of c.self.inside.row.len in
    let xs = c.self.inside.row.cells.items in
    let le : m ≤ length xs = subst (λ n. m ≤ n) (sym c.self.invariant.1) c.self.invariant.0 in
    let seen : c.args.self.now ≡ take m xs = sym c.self.view_is in
    ((refl, λ w. refill-front m xs w le ∙ ap (λ ys. refill (length ys) ys w) (sym seen)), record { writes_back = tt; items = c.front_mut.ensures.value ∙ ap (λ k. take k xs) c.get-len.ensures ∙ sym seen })
