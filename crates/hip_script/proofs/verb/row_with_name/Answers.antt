use Rattle.hip_script.proofs.Names.{row-named, no-name}
use Rattle.hip_script.proofs.verb.row_with_name.Goals as goal

pub returns-in_err-first : goal.returns-in_err-first
returns-in_err-first c = rw c.from_residual.ensures (no-name _ c.in_err-first.ensures.cases)

pub returns : goal.returns
returns c = row-named _ _ _ _ _ c.in_ok-first.ensures.cases.0 c.rows_from.ensures c.named.ensures
