use Rattle.std.proofs.Common.{◌∙◌, ap, arith}
use Rattle.hipstr.proofs.Lent.{lent-longer, lent-same}
use Rattle.hipstr.proofs.machine.slot.extend_lent.Goals as goal

pub returns-in_err-vec-clause-counted : goal.returns-in_err-vec-clause-counted
returns-in_err-vec-clause-counted g c = record { never_falls = c.in_err-vec.ensures.counted.never_falls; at_most = omega (arith, c.in_err-vec.ensures.counted.at_most) }

pub returns-in_err-added-clause-counted : goal.returns-in_err-added-clause-counted
returns-in_err-added-clause-counted g c =
    let lent = ap (λ vec. vec.items) (c.as_mut_vec.ensures.items ∙ c.new-guard.ensures.vec) ∙ c.in_ok-vec.ensures.items in
    lent-same g.S.Source.put_cost _ _ _ _ _ _ _ lent c.in_err-added.ensures.items c.in_ok-vec.ensures.counted c.finish_metered-written.ensures.counted

pub returns-clause-counted : goal.returns-clause-counted
returns-clause-counted g c =
    let lent = ap (λ vec. vec.items) (c.as_mut_vec.ensures.items ∙ c.new-guard.ensures.vec) ∙ c.in_ok-vec.ensures.items in
    lent-longer g.S.Source.put_cost _ _ _ _ _ _ _ lent c.in_ok-added.ensures.items c.in_ok-vec.ensures.counted c.finish_metered-written.ensures.counted
