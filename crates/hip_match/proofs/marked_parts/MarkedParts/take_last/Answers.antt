use Rattle.std.proofs.Common.{Some, None, arith}
use Rattle.hip_match.proofs.GapLemmas.{last_part, only_behind}
use Rattle.std.proofs.lemmas.Option.{none-some, same_Some}
use Rattle.hip_match.proofs.marked_parts.MarkedParts.take_last.Goals as goal
use Rattle.hip_match.proofs.marked_parts.MarkedParts.take_last.Goals.{in_default-via-in-Some+else-self-at, in_default-via-in_default}

pub returns-in-Some-clause-last : goal.returns-in-Some-clause-last
returns-in-Some-clause-last g c = rw c.if-self.false (last_part (g.T.ByteTest.passes c.args.self.now.marks.test.0) _ _ _ c.requires.0 c.in-Some.at c.in-Some.ensures.found c.requires.1 c.if-self-at.true)

pub returns-in_default-clause-last : goal.returns-in_default-clause-last
returns-in_default-clause-last g c =
    let p = g.T.ByteTest.passes c.args.self.now.marks.test.0 in
    elim c.in_default.branch [
      | in_default-via-in-Some+else-self-at x ↦ rw c.if-self.false (only_behind p _ _ _ c.requires.0 (Some x.in-Some.at) x.in-Some.ensures.found (λ at is. let same = same_Some x.in-Some.at at is in omega (arith, same, x.if-self-at.false)))
      | in_default-via-in_default x ↦ rw c.if-self.false (only_behind p _ _ _ c.requires.0 None x.in_default.ensures.found (λ at is. absurd (none-some at is)))
    ]
