use Rattle.std.proofs.Common.{rules}
use Rattle.hip_script.proofs.Decoded.{decoded-none, escape-quote, escape-slash, escape-hex, escape-other}
use Rattle.hip_script.proofs.words.unescape.Goals as goal
use Rattle.hip_script.proofs.words.unescape.Goals.{in-34-1, in-92-1}

pub returns-in_err-first-clause-value : goal.returns-in_err-first-clause-value
returns-in_err-first-clause-value c = rw c.from_residual.ensures (decoded-none _ _ c.in_err-first.ensures.cases)

pub returns-in-120-clause-value : goal.returns-in-120-clause-value
returns-in-120-clause-value c = rw (escape-hex _ _ _ c.in_ok-first.ensures.cases.0 c.in-120.is) c.unhex.ensures.value

pub returns-in_default-clause-value : goal.returns-in_default-clause-value
returns-in_default-clause-value c = escape-other _ _ _ c.in_ok-first.ensures.cases.0 (search rules) (search rules) (search rules)

pub returns-in-34-clause-value : goal.returns-in-34-clause-value
returns-in-34-clause-value c =
    let is = c.in_ok-first.ensures.cases.0 in
    elim c.in-34-1.branch [ in-34-1 w ↦ escape-quote _ _ _ is (search rules) | in-92-1 w ↦ escape-slash _ _ _ is (search rules) ]
