use Rattle.std.proofs.Common.{arith, refl}
use Rattle.std.proofs.lemmas.Grind.{common_steps}
use Rattle.hip_match.proofs.OneCharLemmas.{one_chars, clear, front_match, front_none, front_past}
use Rattle.hip_match.proofs.rmatches.RMatchesRangesBack.next_back.Goals as goal
use Rattle.hip_match.proofs.rmatches.RMatchesRangesBack.next_back.Goals.{in_default-via-in-Some+else-end-self, in_default-via-in_default}

pub returns-in-Some-clause-last : goal.returns-in-Some-clause-last
returns-in-Some-clause-last g c =
    let one = one_chars _ _ (λ a b. g.met.P.Pattern.spans _ _ a b c.requires.window.utf8) (λ a b. g.met.P.OneChar.one_char _ _ a b c.requires.window.utf8) in
    rw c.if-self.false (front_match _ _ one _ _ c.requires.window _ _ c.in-Some.ensures.found c.if-end-self.true)

pub returns-in-Some-clause-cut : goal.returns-in-Some-clause-cut
returns-in-Some-clause-cut g c = g.met.P.Pattern.spans _ _ _ _ c.requires.window.utf8 c.in-Some.ensures.found.occurs

pub returns-in-Some-clause-ready : goal.returns-in-Some-clause-ready
returns-in-Some-clause-ready g c =
    let here = g.met.P.Pattern.spans _ _ _ _ c.requires.window.utf8 c.in-Some.ensures.found.occurs in
    let one = one_chars _ _ (λ a b. g.met.P.Pattern.spans _ _ a b c.requires.window.utf8) (λ a b. g.met.P.OneChar.one_char _ _ a b c.requires.window.utf8) in
    grind (arith, common_steps, here, clear c.args.self.now.text.now (g.P.Pattern.ends c.args.self.now.pattern c.args.self.now.text.now) one)

pub returns-in_default-clause-last : goal.returns-in_default-clause-last
returns-in_default-clause-last g c =
    let one = one_chars _ _ (λ a b. g.met.P.Pattern.spans _ _ a b c.requires.window.utf8) (λ a b. g.met.P.OneChar.one_char _ _ a b c.requires.window.utf8) in
    elim c.in_default.branch [
      | in_default-via-in-Some+else-end-self w ↦ (rw c.if-self.false (front_past _ _ one _ _ c.requires.window _ _ w.in-Some.ensures.found w.if-end-self.false), refl)
      | in_default-via-in_default w ↦ (rw c.if-self.false (front_none _ _ one _ _ c.requires.window w.in_default.ensures.found), refl)
    ]
