use Rattle.std.proofs.Common.{None, Some}
use Rattle.hip_match.proofs.MarkedSetLemmas.{next_start, past_start}
use Rattle.hip_match.proofs.sets.CharPattern.next_match_by.Goals as goal

pub returns-in_err-at : goal.returns-in_err-at
returns-in_err-at c = rw c.from_residual.ensures (record { found = next_start _ _ _ c.requires.ready.0 c.args.text.now c.utf8.text c.args.from None (rw c.as_bytes.ensures.value at c.in_err-at.ensures.found); front = tt; back = λ to ready. ready })

pub returns : goal.returns
returns c = record { found = rw c.reach.ensures.value (next_start _ _ _ c.requires.ready.0 c.args.text.now c.utf8.text c.args.from (Some _) (rw c.as_bytes.ensures.value at c.in_ok-at.ensures.found)); front = λ k goes. (c.requires.ready.0, past_start _ _ _ c.requires.ready.0 c.args.text.now c.utf8.text c.args.from _ k _ _ (λ i. (c.type_inv.text i).fits) (rw c.as_bytes.ensures.value at c.in_ok-at.ensures.found) (rw c.reach.ensures.value at goes) (rw c.as_bytes.ensures.value at c.in_ok-at.ensures.ahead)); back = λ to ready. ready }
