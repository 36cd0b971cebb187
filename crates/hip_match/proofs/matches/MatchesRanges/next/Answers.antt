use Rattle.std.proofs.Common.{ℕ, arith, refl, le_refl, le_of_lt, lt_of_le_of_lt}
use Rattle.std.proofs.lemmas.Grind.{common_steps}
use Rattle.hip_match.proofs.LeftmostLemmas.{leftmost_between-some, leftmost_between-last, leftmost_between-none, leftmost_between-past}
use Rattle.hip_match.proofs.OccurrenceLemmas.{none_off_boundary, not_past}
use Rattle.hip_match.proofs.matches.MatchesRanges.next.Goals as goal
use Rattle.hip_match.proofs.matches.MatchesRanges.next.Goals.{in_default-via-in-Some+else-end-self, in_default-via-in_default}

pub returns-then-start-end-clause-cut : goal.returns-then-start-end-clause-cut
returns-then-start-end-clause-cut g c = g.met.P.Pattern.spans _ _ _ _ c.requires.window.utf8 c.in-Some.ensures.found.occurs

pub returns-then-start-end-clause-ready : goal.returns-then-start-end-clause-ready
returns-then-start-end-clause-ready g c = grind (arith, common_steps, g.met.P.Pattern.spans _ _ _ _ c.requires.window.utf8 c.in-Some.ensures.found.occurs)

pub returns-then-end-self-2-clause-first : goal.returns-then-end-self-2-clause-first
returns-then-end-self-2-clause-first g c =
    let spans = λ (a b : ℕ). g.met.P.Pattern.spans c.args.self.now.pattern c.args.self.now.text.now a b c.requires.window.utf8 in
    let here = spans _ _ c.in-Some.ensures.found.occurs in
    let next = c.boundary_after-self.ensures in
    rw c.if-self.false (leftmost_between-some _ _ _ _ _ _ c.in-Some.ensures.found c.if-end-self.true (lt_of_le_of_lt here.ordered next.after) (le_of_lt next.after) (not_past _ _ _ _ next c.if-end-self-2.true c.requires.window.end) here.ordered
    (λ k lo mid hi. none_off_boundary _ _ spans k (next.none k (omega (arith, c.if-start-end.false, lo)) hi)))

pub returns-then-end-self-2-clause-cut : goal.returns-then-end-self-2-clause-cut
returns-then-end-self-2-clause-cut g c = g.met.P.Pattern.spans _ _ _ _ c.requires.window.utf8 c.in-Some.ensures.found.occurs

pub returns-else-end-self-2-clause-cut : goal.returns-else-end-self-2-clause-cut
returns-else-end-self-2-clause-cut g c = g.met.P.Pattern.spans _ _ _ _ c.requires.window.utf8 c.in-Some.ensures.found.occurs

pub returns-then-start-end-clause-first : goal.returns-then-start-end-clause-first
returns-then-start-end-clause-first g c = rw c.if-self.false (leftmost_between-some _ _ _ _ _ _ c.in-Some.ensures.found c.if-end-self.true c.if-start-end.true (le_refl _) (omega arith) (le_of_lt c.if-start-end.true) (λ k lo mid hi. absurd (omega arith)))

pub returns-else-end-self-2-clause-first : goal.returns-else-end-self-2-clause-first
returns-else-end-self-2-clause-first g c =
    let here = g.met.P.Pattern.spans _ _ _ _ c.requires.window.utf8 c.in-Some.ensures.found.occurs in
    rw c.if-self.false (leftmost_between-last _ _ _ _ _ c.in-Some.ensures.found c.if-end-self.true (omega (arith, here.ordered)) (omega arith))

pub returns-in_default-clause-first : goal.returns-in_default-clause-first
returns-in_default-clause-first g c =
    elim c.in_default.branch [
      | in_default-via-in-Some+else-end-self w ↦ (rw c.if-self.false (leftmost_between-past _ _ _ _ _ w.in-Some.ensures.found w.if-end-self.false c.requires.whole), refl)
      | in_default-via-in_default w ↦ (rw c.if-self.false (leftmost_between-none _ _ _ w.in_default.ensures.found), refl)
    ]
