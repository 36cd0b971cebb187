use Rattle.std.proofs.Common.{ℕ, arith, refl, le_refl, le_of_lt, lt_of_lt_of_le}
use Rattle.std.proofs.lemmas.Grind.{common_steps}
use Rattle.hip_match.proofs.RightmostLemmas.{rightmost_between-some, rightmost_between-last, rightmost_between-none, rightmost_between-past}
use Rattle.hip_match.proofs.rmatches.RMatchesRanges.next.Goals as goal
use Rattle.hip_match.proofs.rmatches.RMatchesRanges.next.Goals.{in_default-via-in-Some+else-self-start, in_default-via-in_default}

pub boundary_before-self-requires-clause-within : goal.boundary_before-self-requires-clause-within
boundary_before-self-requires-clause-within g c = (g.met.P.Pattern.spans _ _ _ _ c.requires.window.utf8 c.in-Some.ensures.found.occurs).start.0

pub returns-then-start-end-clause-first : goal.returns-then-start-end-clause-first
returns-then-start-end-clause-first g c =
    rw c.if-self.false (rightmost_between-some _ _ _ (λ k m is. (g.met.P.Pattern.spans _ _ k m c.requires.window.utf8 is).ordered) (λ a b m. g.met.P.ReversePattern.one_start _ _ a b m c.requires.window.utf8)
    _ _ c.in-Some.ensures.found c.if-self-start.true _ c.if-start-end.true (le_refl _) (λ k m is lo mid hi. absurd (omega arith)))

pub returns-then-start-end-clause-cut : goal.returns-then-start-end-clause-cut
returns-then-start-end-clause-cut g c = g.met.P.Pattern.spans _ _ _ _ c.requires.window.utf8 c.in-Some.ensures.found.occurs

pub returns-then-start-end-clause-ready : goal.returns-then-start-end-clause-ready
returns-then-start-end-clause-ready g c = grind (arith, common_steps, g.met.P.Pattern.spans _ _ _ _ c.requires.window.utf8 c.in-Some.ensures.found.occurs)

pub returns-then-self-start-2-clause-first : goal.returns-then-self-start-2-clause-first
returns-then-self-start-2-clause-first g c =
    let spans = λ (a b : ℕ). g.met.P.Pattern.spans c.args.self.now.pattern c.args.self.now.text.now a b c.requires.window.utf8 in
    let prev = c.boundary_before-self.ensures in
    rw c.if-self.false (rightmost_between-some _ _ _ (λ k m is. (g.met.P.Pattern.spans _ _ k m c.requires.window.utf8 is).ordered) (λ a b m. g.met.P.ReversePattern.one_start _ _ a b m c.requires.window.utf8)
    _ _ c.in-Some.ensures.found c.if-self-start.true _ (lt_of_lt_of_le prev.before (g.met.P.Pattern.spans _ _ _ _ c.requires.window.utf8 c.in-Some.ensures.found.occurs).ordered) (le_of_lt prev.before)
    (λ k m is lo mid hi. prev.none m lo (omega (arith, c.if-start-end.false, hi)) (spans k m is).end))

pub returns-then-self-start-2-clause-cut : goal.returns-then-self-start-2-clause-cut
returns-then-self-start-2-clause-cut g c = g.met.P.Pattern.spans _ _ _ _ c.requires.window.utf8 c.in-Some.ensures.found.occurs

pub returns-else-self-start-2-clause-first : goal.returns-else-self-start-2-clause-first
returns-else-self-start-2-clause-first g c =
    let here = g.met.P.Pattern.spans _ _ _ _ c.requires.window.utf8 c.in-Some.ensures.found.occurs in
    rw c.if-self.false (rightmost_between-last _ _ _ (λ k m is. (g.met.P.Pattern.spans _ _ k m c.requires.window.utf8 is).ordered) (λ a b m. g.met.P.ReversePattern.one_start _ _ a b m c.requires.window.utf8)
    _ _ c.in-Some.ensures.found (omega (arith, here.ordered)) (omega arith))

pub returns-else-self-start-2-clause-cut : goal.returns-else-self-start-2-clause-cut
returns-else-self-start-2-clause-cut g c = g.met.P.Pattern.spans _ _ _ _ c.requires.window.utf8 c.in-Some.ensures.found.occurs

pub returns-in_default-clause-first : goal.returns-in_default-clause-first
returns-in_default-clause-first g c =
    elim c.in_default.branch [
      | in_default-via-in-Some+else-self-start w ↦ (rw c.if-self.false (rightmost_between-past _ _ _ (λ k m is. (g.met.P.Pattern.spans _ _ k m c.requires.window.utf8 is).ordered) (λ a b m. g.met.P.ReversePattern.one_start _ _ a b m c.requires.window.utf8) _ _ w.in-Some.ensures.found w.if-self-start.false c.requires.whole), refl)
      | in_default-via-in_default w ↦ (rw c.if-self.false (rightmost_between-none _ _ _ (λ k m is. (g.met.P.Pattern.spans _ _ k m c.requires.window.utf8 is).ordered) (λ a b m. g.met.P.ReversePattern.one_start _ _ a b m c.requires.window.utf8) w.in_default.ensures.found), refl)
    ]
