use Rattle.std.proofs.Common.{◌∙◌, ap, arith}
use Rattle.std.specs.String.{string_bytes}
use Rattle.hipstr.proofs.Lent.{lent-longer, lent-same}
use Rattle.hipstr.proofs.machine.slot.extend_lent_text.Goals as goal

pub returns-in_err-string-clause-counted : goal.returns-in_err-string-clause-counted
returns-in_err-string-clause-counted g c = record { never_falls = c.in_err-string.ensures.counted.never_falls; at_most = omega (arith, c.in_err-string.ensures.counted.at_most) }

pub returns-in_err-added-clause-counted : goal.returns-in_err-added-clause-counted
returns-in_err-added-clause-counted g c =
    let lent = ap string_bytes (c.as_mut_string.ensures.items ∙ c.new-guard.ensures.string) ∙ c.in_ok-string.ensures.items in
    lent-same g.S.TextSource.put_cost _ _ _ _ _ _ _ lent c.in_err-added.ensures.bytes c.in_ok-string.ensures.counted c.finish_metered-written.ensures.counted

pub returns-clause-counted : goal.returns-clause-counted
returns-clause-counted g c =
    let lent = ap string_bytes (c.as_mut_string.ensures.items ∙ c.new-guard.ensures.string) ∙ c.in_ok-string.ensures.items in
    lent-longer g.S.TextSource.put_cost _ _ _ _ _ _ _ lent c.in_ok-added.ensures.bytes c.in_ok-string.ensures.counted c.finish_metered-written.ensures.counted
