use Rattle.std.proofs.lemmas.Option.{MatchOption-at_some}
use Rattle.hip_script.specs.Said.{held}
use Rattle.hip_script.proofs.Quotes.{reads-ends}
use Rattle.hip_script.proofs.buffers.Buffers.read_ends.Goals as goal

pub returns-clause-ok : goal.returns-clause-ok
returns-clause-ok c =
    let read = c.in_ok-ends.ensures.ok in
    reads-ends (held c.args.self.now) _ _ _ _ _ _ _ _ _ _ c.requires (MatchOption-at_some _ _ _ c.in_ok-word.ensures.ok_part c.next.ensures) read.1 read.2 c.arguments.ensures c.in_ok-said.ensures.ok
