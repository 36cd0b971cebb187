use Rattle.hipstr.proofs.machine.parts.make_by_front.Goals as goal

pub returns-in-Split : goal.returns-in-Split
returns-in-Split g c = rw (c.in-Split.is, ← c.split.ensures.rest, ← c.split.ensures.source) c.make_front.ensures

pub returns-in-Inclusive : goal.returns-in-Inclusive
returns-in-Inclusive g c = rw (c.in-Inclusive.is, ← c.split_inclusive.ensures.rest, ← c.split_inclusive.ensures.source) c.make_front-in-Inclusive.ensures

pub returns-in-Terminator : goal.returns-in-Terminator
returns-in-Terminator g c = rw (c.in-Terminator.is, ← c.split_terminator.ensures.rest, ← c.split_terminator.ensures.source) c.make_front-in-Terminator.ensures

pub returns-in-SplitN : goal.returns-in-SplitN
returns-in-SplitN g c = rw (c.in-SplitN.is, ← c.splitn.ensures.rest, ← c.splitn.ensures.source) c.make_front-in-SplitN.ensures

pub returns-in-Matches : goal.returns-in-Matches
returns-in-Matches g c = rw (c.in-Matches.is, ← c.matches.ensures.rest, ← c.matches.ensures.source) c.make_front-in-Matches.ensures

pub returns-in-RSplit : goal.returns-in-RSplit
returns-in-RSplit g c = rw (c.in-RSplit.is, ← c.rsplit.ensures.rest, ← c.rsplit.ensures.source) c.make_front-in-RSplit.ensures

pub returns-in-RTerminator : goal.returns-in-RTerminator
returns-in-RTerminator g c = rw (c.in-RTerminator.is, ← c.rsplit_terminator.ensures.rest, ← c.rsplit_terminator.ensures.source) c.make_front-in-RTerminator.ensures

pub returns-in-RSplitN : goal.returns-in-RSplitN
returns-in-RSplitN g c = rw (c.in-RSplitN.is, ← c.rsplitn.ensures.rest, ← c.rsplitn.ensures.source) c.make_front-in-RSplitN.ensures

pub returns-in-RMatches : goal.returns-in-RMatches
returns-in-RMatches g c = rw (c.in-RMatches.is, ← c.rmatches.ensures.rest, ← c.rmatches.ensures.source) c.make_front-in-RMatches.ensures
