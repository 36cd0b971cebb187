use Rattle.std.proofs.Common.{None, Some, arith}
use Rattle.hip_match.proofs.MarkedSetLemmas.{last_start}
use Rattle.hip_match.proofs.sets.CharReversePattern.last_match_by.Goals as goal

pub returns-in_err-at : goal.returns-in_err-at
returns-in_err-at c = rw c.from_residual.ensures (record { found = last_start _ _ _ c.requires.ready.0 c.args.text.now c.utf8.text c.args.to None c.requires.boundary (rw c.as_bytes.ensures.value at c.in_err-at.ensures.found); back = tt; front = λ from ready. ready })

pub returns : goal.returns
returns c = record { found = rw c.reach.ensures.value (last_start _ _ _ c.requires.ready.0 c.args.text.now c.utf8.text c.args.to (Some _) c.requires.boundary (rw c.as_bytes.ensures.value at c.in_ok-at.ensures.found)); back = λ k goes. (c.requires.ready.0, rw (goes.1 (omega arith)) (rw c.as_bytes.ensures.value at c.in_ok-at.ensures.behind)); front = λ from ready. ready }
