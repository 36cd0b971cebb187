use Rattle.std.proofs.Common.{sym, ◌∙◌}
use Rattle.hip_match.proofs.SetLemmas.{start_of-found, char_before-yes, char_before-no}
use Rattle.hip_match.proofs.chars.start_before.Goals as goal

pub returns-then-has : goal.returns-then-has
returns-then-has g c = sym (start_of-found _ c.args.text.now c.utf8.text _ _ (char_before-yes _ c.args.text.now c.utf8.text _ _ c.in_ok-c.ensures (sym c.has.ensures ∙ c.if-has.true)))

pub returns-else-has : goal.returns-else-has
returns-else-has g c = sym (char_before-no _ c.args.text.now c.utf8.text _ _ c.in_ok-c.ensures (sym c.has.ensures ∙ c.if-has.false))
