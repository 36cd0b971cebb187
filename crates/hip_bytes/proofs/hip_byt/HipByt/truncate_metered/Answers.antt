use Rattle.std.proofs.Common.{arith}
use Rattle.std.proofs.lemmas.Grind.{common_steps}
use Rattle.hip_bytes.proofs.hip_byt.HipByt.truncate_metered.Goals as goal

pub returns-in-Inline-clause-shortened : goal.returns-in-Inline-clause-shortened
returns-in-Inline-clause-shortened g c = grind (arith, common_steps)

pub returns-in-Borrowed-clause-shortened : goal.returns-in-Borrowed-clause-shortened
returns-in-Borrowed-clause-shortened g c = grind (arith, common_steps)

pub returns-in-Allocated-clause-shortened : goal.returns-in-Allocated-clause-shortened
returns-in-Allocated-clause-shortened g c = grind (arith, common_steps)
