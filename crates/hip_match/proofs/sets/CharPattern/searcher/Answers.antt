use Rattle.hip_match.proofs.sets.CharPattern.searcher.Goals as goal

pub returns : goal.returns
returns c = record { front = λ cut. rw c.new.ensures.test (c.needle_of.ensures, c.new.ensures.ahead _ cut.0); back = λ cut. rw c.new.ensures.test (c.needle_of.ensures, c.new.ensures.behind _ cut.0) }
