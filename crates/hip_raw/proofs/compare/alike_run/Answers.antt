use Rattle.hip_raw.proofs.Alike.{run_from_none, run_from_some}
use Rattle.hip_raw.proofs.compare.alike_run.Goals as goal

pub returns-then-unlike-eq0 : goal.returns-then-unlike-eq0
returns-then-unlike-eq0 g c = run_from_none c.args.a.now c.args.b.now c.args.i g.row.N c.requires.within.0 c.requires.within.1 c.requires.lanes.1 c.if-unlike-eq0.true

pub returns-else-unlike-eq0 : goal.returns-else-unlike-eq0
returns-else-unlike-eq0 g c = run_from_some c.args.a.now c.args.b.now c.args.i g.row.N c.requires.within.0 c.requires.within.1 c.requires.lanes.1 c.if-unlike-eq0.false
