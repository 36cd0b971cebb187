use Rattle.std.proofs.Common.{arith, refl}
use Rattle.std.proofs.lemmas.Grind.{common_steps}
use Rattle.hip_match.proofs.OneCharLemmas.{one_chars, clear, back_match, back_none, back_past}
use Rattle.hip_match.proofs.matches.Matches.next_back_match.Goals as goal
use Rattle.hip_match.proofs.matches.Matches.next_back_match.Goals.{in_default-via-in-Some+else-self-start, in_default-via-in_default}

pub returns-in-Some-clause-taken : goal.returns-in-Some-clause-taken
returns-in-Some-clause-taken g c =
    let utf8 = c.requires.window.utf8 in
    let here = g.met.P.Pattern.spans _ _ _ _ utf8 c.in-Some.ensures.found.occurs in
    let one = one_chars _ _ (λ a b. g.met.P.Pattern.spans _ _ a b utf8) (λ a b. g.met.P.OneChar.one_char _ _ a b utf8) in
    record {
      list = rw c.if-self.false (back_match _ _ one _ _ c.requires.window _ _ c.in-Some.ensures.found c.if-self-start.true);
      cut = here;
      text = refl;
      ready = grind (arith, common_steps, here, clear c.args.self.now.text.now (g.P.Pattern.ends c.args.self.now.pattern c.args.self.now.text.now) one);
    }

pub returns-in_default-clause-taken : goal.returns-in_default-clause-taken
returns-in_default-clause-taken g c =
    let utf8 = c.requires.window.utf8 in
    let one = one_chars _ _ (λ a b. g.met.P.Pattern.spans _ _ a b utf8) (λ a b. g.met.P.OneChar.one_char _ _ a b utf8) in
    record {
      list = elim c.in_default.branch [
        | in_default-via-in-Some+else-self-start w ↦ (
          rw c.if-self.false (back_past _ _ one _ _ c.requires.window _ _ w.in-Some.ensures.found w.if-self-start.false),
          refl,
        )
        | in_default-via-in_default w ↦ (
          rw c.if-self.false (back_none _ _ one _ _ c.requires.window w.in_default.ensures.found),
          refl,
        )
      ];
      cut = _;
      text = refl;
      ready = grind (arith, common_steps);
    }
