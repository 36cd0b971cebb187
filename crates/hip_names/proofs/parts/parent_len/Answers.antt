use Rattle.hip_names.proofs.Parents.{parent-named}
use Rattle.hip_names.proofs.parts.parent_len.Goals as goal

pub returns-in-Some : goal.returns-in-Some
returns-in-Some c = parent-named _ _ _ _ c.in-Some.ensures c.trimmed_len.ensures
