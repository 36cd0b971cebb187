use Rattle.std.proofs.Common.{arith}
use Rattle.hip_uses.proofs.TurnLemmas.{ahead-more, none-ahead, turn-found, turn-passed}
use Rattle.hip_uses.proofs.tokens.turns.Turns.next.Goals as goal

pub returns-in-Some-clause-found : goal.returns-in-Some-clause-found
returns-in-Some-clause-found c =
    let rest = c.without_lowest-self.ensures in
    let low = c.in-Some.ensures in
    turn-found c.args.bytes.now _ _ _ c.loop-first.invariant c.in-Some.first c.without_lowest-self.result low (rest.lowest _ low) (λ k apart. rest.others _ k low apart)

pub returns-in-Some-clause-ahead : goal.returns-in-Some-clause-ahead
returns-in-Some-clause-ahead c =
    let rest = c.without_lowest-self.ensures in
    let low = c.in-Some.ensures in
    turn-passed c.args.bytes.now _ _ _ c.loop-first.invariant c.in-Some.first c.without_lowest-self.result low (rest.lowest _ low) (λ k apart. rest.others _ k low apart)

pub returns-then-bytes-self-lt64-clause-found : goal.returns-then-bytes-self-lt64-clause-found
returns-then-bytes-self-lt64-clause-found c = record {
  none = none-ahead c.args.bytes.now _ _ _ c.loop-first.invariant c.in_default.ensures;
  taken = c.in_default.ensures;
  short = omega (arith, c.if-bytes-self-lt64.true);
}

pub loop-first-preserved : goal.loop-first-preserved
loop-first-preserved c =
    ahead-more c.args.bytes.now _ _ _ c.loop-first.invariant c.turns_at-self.result c.in_default.ensures (let within = c.loop-first.invariant.within in omega (arith, c.if-bytes-self-lt64.false)) c.turns_at-self.ensures.turns c.turns_at-self.ensures.few
