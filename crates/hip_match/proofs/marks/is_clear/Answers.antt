use Rattle.std.proofs.Common.{eqb-true}
use Rattle.hip_match.proofs.MarkLemmas.{all-clear}
use Rattle.hip_match.proofs.marks.is_clear.Goals as goal

pub returns : goal.returns
returns g c clear = all-clear (g.T.PlaceTest.places c.args.test.now) c.args.bytes.now c.args.at _ _ _ _ c.lanes.ensures c.lanes-2.ensures c.lanes-3.ensures c.lanes-4.ensures (eqb-true _ _ clear)
