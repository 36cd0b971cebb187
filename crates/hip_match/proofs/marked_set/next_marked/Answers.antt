use Rattle.std.proofs.Common.{arith, sym}
use Rattle.hip_match.proofs.MarkedSetLemmas.{none_left, none_up_to, past_char, starts_first}
use Rattle.hip_match.proofs.marked_set.next_marked.Goals as goal

pub returns-in-Some-end_at_mark-clause-front : goal.returns-in-Some-end_at_mark-clause-front
returns-in-Some-end_at_mark-clause-front g c k goes =
    let inv = c.loop-at.invariant in
    let at = c.in-Some-next.at in
    let ahead = rw c.as_bytes-bytes.ensures.value at c.in-Some-next.ensures.ahead in
    (inv.0, past_char _ _ (g.met.S.MarkedSet.first_places _ _ inv.0) c.args.text.now c.utf8.text at c.in-Some-end_at_mark.end k _ _ (λ i. (c.type_inv.text i).fits) (sym c.in-Some-end_at_mark.ensures) goes ahead)

pub returns-in-Some-end_at_mark-clause-found : goal.returns-in-Some-end_at_mark-clause-found
returns-in-Some-end_at_mark-clause-found g c = grind (arith, starts_first, g.met.S.MarkedSet.first_places _ _ c.loop-at.invariant.0)

pub returns-clause-found : goal.returns-clause-found
returns-clause-found g c =
    let inv = c.loop-at.invariant in
    none_left _ _ (g.met.S.MarkedSet.first_places _ _ inv.0) c.args.text.now c.utf8.text c.args.from c.loop-at.past inv.3
    (rw c.as_bytes-bytes.ensures.value at c.in_default-next.ensures.found)

pub loop-at-preserved : goal.loop-at-preserved
loop-at-preserved g c = grind (arith, none_up_to, g.met.S.MarkedSet.first_places _ _ c.loop-at.invariant.0)

pub returns-in-Some-end_at_mark-clause-back : goal.returns-in-Some-end_at_mark-clause-back
returns-in-Some-end_at_mark-clause-back g c to ready = c.loop-at.invariant.4 to (rw c.in-Some.is at ready)

pub loop-at-init : goal.loop-at-init
loop-at-init g c =
    let ready = rw c.in-Some.is at c.requires.ready in
    (ready.0, ready.1, omega arith, λ k lo hi. absurd (omega arith), λ _ back. back)
