use Rattle.std.proofs.Common.{subst, sym, length, ◌<◌, ◌≡◌, arith}
use Rattle.std.specs.{Cmp.ranks, Ordering.MatchOrdering}
use Rattle.hip_raw.proofs.Decided.{by_lengths}
use Rattle.hip_raw.proofs.compare.order_at.Goals as goal

pub returns : goal.returns
returns c =
    let m = length c.args.a.now in
    let n = length c.args.b.now in
    by_lengths c.args.a.now c.args.b.now c.args.both _ (λ e. omega arith) (λ l. omega arith) (omega arith)
    (λ k from below. c.requires.run.alike k from (omega arith))
    (subst (λ r. MatchOrdering r (m < n) (m ≡ n) (n < m)) (sym c.cmp-2.ensures) (ranks m n))
