use Rattle.hip_script.proofs.Quotes.{follows-nothing}
use Rattle.hip_script.proofs.buffers.Buffers.read_following.Goals as goal

pub returns-in-Nothing-clause-ok : goal.returns-in-Nothing-clause-ok
returns-in-Nothing-clause-ok c = follows-nothing _ _ _ _ c.in-Nothing.is c.requires
