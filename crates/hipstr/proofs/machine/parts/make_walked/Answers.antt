use Rattle.hipstr.proofs.machine.parts.make_walked.Goals as goal

pub returns-in-Lines : goal.returns-in-Lines
returns-in-Lines g c = rw (c.in-Lines.is, ← c.lines.ensures.rest, ← c.lines.ensures.source) c.make_both.ensures

pub returns-in-Words : goal.returns-in-Words
returns-in-Words g c = rw (c.in-Words.is, ← c.split_whitespace.ensures.rest, ← c.split_whitespace.ensures.source) c.make_both-in-Words.ensures
