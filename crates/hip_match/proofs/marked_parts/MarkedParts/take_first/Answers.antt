use Rattle.std.proofs.Common.{Some, None, arith}
use Rattle.hip_match.proofs.GapLemmas.{first_part, only_ahead}
use Rattle.std.proofs.lemmas.Option.{none-some, same_Some}
use Rattle.hip_match.proofs.marked_parts.MarkedParts.take_first.Goals as goal
use Rattle.hip_match.proofs.marked_parts.MarkedParts.take_first.Goals.{in_default-via-in-Some+else-at-self, in_default-via-in_default}

pub returns-in-Some-clause-first : goal.returns-in-Some-clause-first
returns-in-Some-clause-first g c = rw c.if-self.false (first_part (g.T.ByteTest.passes c.args.self.now.marks.test.0) _ _ _ c.requires.0 c.in-Some.at c.in-Some.ensures.found c.if-at-self.true)

pub returns-in_default-clause-first : goal.returns-in_default-clause-first
returns-in_default-clause-first g c =
    let p = g.T.ByteTest.passes c.args.self.now.marks.test.0 in
    elim c.in_default.branch [
      | in_default-via-in-Some+else-at-self x ↦ rw c.if-self.false (only_ahead p _ _ _ c.requires.0 (Some x.in-Some.at) x.in-Some.ensures.found (λ at is. let same = same_Some x.in-Some.at at is in omega (arith, same, x.if-at-self.false)))
      | in_default-via-in_default x ↦ rw c.if-self.false (only_ahead p _ _ _ c.requires.0 None x.in_default.ensures.found (λ at is. absurd (none-some at is)))
    ]
