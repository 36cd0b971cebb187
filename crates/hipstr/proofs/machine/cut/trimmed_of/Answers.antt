use Rattle.hipstr.proofs.machine.cut.trimmed_of.Goals as goal

pub returns-in-Char : goal.returns-in-Char
returns-in-Char g c = rw c.in-Char.is c.trimmed_matches.ensures

pub returns-in-Set : goal.returns-in-Set
returns-in-Set g c = rw c.in-Set.is c.trimmed_matches-in-Set.ensures
