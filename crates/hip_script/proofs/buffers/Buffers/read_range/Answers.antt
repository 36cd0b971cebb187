use Rattle.std.proofs.{Common.refl, lemmas.Option.MatchOption-at_some}
use Rattle.hip_script.specs.Said.{held}
use Rattle.hip_script.proofs.{Quotes.range-alone, Quotes.reads-range, buffers.Buffers.read_range.Goals.in-Nothing-Included-Excluded, buffers.Buffers.read_range.Goals.in_default+in_ok-said-in_default}
use Rattle.hip_script.proofs.buffers.Buffers.read_range.Goals as goal

pub returns-clause-ok : goal.returns-clause-ok
returns-clause-ok c =
    let read = MatchOption-at_some _ _ _ c.in_ok-low.ensures.ok_part c.range.ensures in
    elim c.match-said.branch [
      | in-Nothing-Included-Excluded w ↦
          rw (w.self-is, w.said-is) (reads-range (held c.args.self.now) _ _ _ _ _ _ _ _ c.requires read refl
          (range-alone _ _ _ _ _ _ w.in-Nothing-Included-Excluded.is-0 w.in-Nothing-Included-Excluded.is-1 w.in-Nothing-Included-Excluded.is-2))
      | in_default+in_ok-said-in_default w ↦
          rw (w.self-is, w.said-is) (reads-range (held c.args.self.now) _ _ _ _ _ _ _ _ c.requires read w.arguments.ensures w.in_ok-said-in_default.ensures.ok)
    ]
