use Rattle.std.proofs.Common.{◌≤◌, ◌∙◌, ap, subst, sym, take, replicate}
use Rattle.std.proofs.lemmas.List.{length-replicate, take-replicate}
use Rattle.hip_raw.proofs.inline.Inline.zeroed.Goals as goal

pub invariant_of-result : goal.invariant_of-result
invariant_of-result g c = (subst (λ k. k ≤ g.row.N) (sym c.of.ensures) c.requires, length-replicate g.row.N 0)

pub returns : goal.returns
returns g c = ap (λ k. take k (replicate g.row.N 0)) c.of.ensures ∙ take-replicate c.args.len g.row.N 0 c.requires
