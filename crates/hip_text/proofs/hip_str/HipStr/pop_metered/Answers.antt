use Rattle.std.proofs.Common.{◌∙◌, sym, ap, arith}
use Rattle.std.proofs.lemmas.Grind.{common_steps}
use Rattle.hip_bytes.specs.Handle.{Handle}
use Rattle.hip_text.proofs.Texts.{is_utf8-popped}
use Rattle.hip_text.proofs.hip_str.HipStr.pop_metered.Goals as goal

pub invariant_of-self : goal.invariant_of-self
invariant_of-self g c =
    is_utf8-popped c.self.inside.bytes c.truncate_metered.new.self c.as_str-len.result.now c.in_ok-last.last c.truncate_metered.ensures.shortened
    (ap (λ (handle : Handle). handle.items) c.self.view_is ∙ sym c.as_str.ensures.items ∙ sym c.chars-rest.ensures.rest ∙ c.in_ok-last.ensures.steps)
    c.as_str-len.ensures c.as_str-len.utf8

pub returns-in_err-last-clause-pop : goal.returns-in_err-last-clause-pop
returns-in_err-last-clause-pop g c = grind (arith, common_steps)

pub returns-clause-pop : goal.returns-clause-pop
returns-clause-pop g c = grind (arith, common_steps)
