use Rattle.std.proofs.Common.{sym}
use Rattle.hip_names.proofs.Trimmed.{end-start}
use Rattle.hip_names.proofs.parts.trimmed_len.Goals as goal

pub returns-in-Some-start_of : goal.returns-in-Some-start_of
returns-in-Some-start_of c = end-start _ _ c.in-None.ensures (sym c.in-Some-start_of.ensures)
