use Rattle.std.proofs.Common.{ap}
use Rattle.hip_match.proofs.StartLemmas.{set_starts}
use Rattle.hip_match.proofs.ascii_set.AsciiSetPattern.searcher.Goals as goal

pub returns : goal.returns
returns c =
    record { front = λ cut. rw (ap (λ b. b.0) c.new.ensures.test) (set_starts c.args.self.now, c.new.ensures.ahead _ cut.0); back = λ cut. rw (ap (λ b. b.0) c.new.ensures.test) (set_starts c.args.self.now, c.new.ensures.behind _ cut.0) }
