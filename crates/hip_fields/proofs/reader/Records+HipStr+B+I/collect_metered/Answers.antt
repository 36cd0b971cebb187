use Rattle.std.proofs.Common.{[], arith}
use Rattle.std.proofs.lemmas.List.{append-nil}
use Rattle.hip_fields.proofs.reader.Records+HipStr+B+I.collect_metered.Goals as goal

pub returns-clause-records : goal.returns-clause-records
returns-clause-records g c = grind (arith, append-nil, c.loop-fields.invariant.records [])
