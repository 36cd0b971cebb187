use Rattle.std.proofs.Common.{arith, sym}
use Rattle.hip_match.specs.CharLaws.{char_ends-one_char}
use Rattle.hip_match.proofs.MarkedSetLemmas.{beyond-new, beyond_it, ends_last, none_before}
use Rattle.hip_match.proofs.marked_set.last_marked.Goals as goal

pub returns-in-Some-end_at_mark-clause-found : goal.returns-in-Some-end_at_mark-clause-found
returns-in-Some-end_at_mark-clause-found g c =
    let inv = c.loop-at.invariant in
    let at = c.in-Some-last.at in
    let found = rw c.as_bytes-bytes.ensures.value at c.in-Some-last.ensures.found in
    ends_last _ _ (g.met.S.MarkedSet.first_places _ _ inv.0) c.args.text.now c.utf8.text c.args.to c.loop-at.past inv.3 at c.in-Some-end_at_mark.end c.requires.boundary inv.2 found (sym c.in-Some-end_at_mark.ensures)

pub returns-in-Some-end_at_mark-clause-back : goal.returns-in-Some-end_at_mark-clause-back
returns-in-Some-end_at_mark-clause-back g c k goes =
    let at = c.in-Some-last.at in
    let one = char_ends-one_char (g.S.CharSet.belongs c.args.set.now) c.args.text.now at c.in-Some-end_at_mark.end c.utf8.text (sym c.in-Some-end_at_mark.ensures) in
    let behind = rw c.as_bytes-bytes.ensures.value at c.in-Some-last.ensures.behind in
    (c.loop-at.invariant.0, rw (goes.1 one.holds) behind)

pub returns-clause-found : goal.returns-clause-found
returns-clause-found g c = grind (arith, none_before, g.met.S.MarkedSet.first_places _ _ c.loop-at.invariant.0)

pub loop-at-preserved : goal.loop-at-preserved
loop-at-preserved g c = grind (arith, beyond_it, g.met.S.MarkedSet.first_places _ _ c.loop-at.invariant.0)

pub returns-in-Some-end_at_mark-clause-front : goal.returns-in-Some-end_at_mark-clause-front
returns-in-Some-end_at_mark-clause-front g c from ready = c.loop-at.invariant.4 from (rw c.in-Some.is at ready)

pub loop-at-init : goal.loop-at-init
loop-at-init g c =
    let ready = rw c.in-Some.is at c.requires.ready in
    (ready.0, ready.1, omega arith, beyond-new _ _ (g.met.S.MarkedSet.first_places _ _ ready.0) c.args.text.now c.utf8.text c.args.to, λ _ front. front)
