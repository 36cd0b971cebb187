use Rattle.std.proofs.Common.{ap}
use Rattle.hip_match.proofs.StartLemmas.{list_starts}
use Rattle.hip_match.proofs.sets.RefSliceCharPattern.searcher.Goals as goal

pub returns : goal.returns
returns c = record { front = λ cut. rw (ap (λ b. b.0) c.new.ensures.test) (list_starts _ _ c.in_ok-ascii_set.ensures, c.new.ensures.ahead _ cut.0); back = λ cut. rw (ap (λ b. b.0) c.new.ensures.test) (list_starts _ _ c.in_ok-ascii_set.ensures, c.new.ensures.behind _ cut.0) }
