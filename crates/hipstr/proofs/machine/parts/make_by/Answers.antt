use Rattle.hipstr.specs.Cut.{has_back}
use Rattle.hipstr.proofs.Ways.{char-ends, set-ends, text-alone}
use Rattle.hipstr.proofs.machine.parts.make_by.Goals as goal

pub make_by_front-requires-clause-front : goal.make_by_front-requires-clause-front
make_by_front-requires-clause-front g c = text-alone c.args.way c.args.pattern c.in-Text.pattern (has_back c.args.script.now) c.in-Text.is c.requires.ends

pub make_by_both-requires-clause-ends : goal.make_by_both-requires-clause-ends
make_by_both-requires-clause-ends g c = char-ends c.args.way c.args.pattern c.in-Char.c (has_back c.args.script.now) c.in-Char.is c.requires.ends

pub make_by_both-requires-in-Set-clause-ends : goal.make_by_both-requires-in-Set-clause-ends
make_by_both-requires-in-Set-clause-ends g c = set-ends c.args.way c.args.pattern c.in-Set.set (has_back c.args.script.now) c.in-Set.is c.requires.ends

pub returns-in-Text : goal.returns-in-Text
returns-in-Text g c = rw c.in-Text.is c.make_by_front.ensures

pub returns-in-Char : goal.returns-in-Char
returns-in-Char g c = rw c.in-Char.is c.make_by_both.ensures

pub returns-in-Set : goal.returns-in-Set
returns-in-Set g c = rw c.in-Set.is c.make_by_both-in-Set.ensures
