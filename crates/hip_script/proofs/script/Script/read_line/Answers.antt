use Rattle.std.proofs.{Common.rules, lemmas.Bool.both_ways, lemmas.Option.MatchOption-at_none, lemmas.Option.MatchOption-at_some}
use Rattle.hip_script.specs.Said.{held}
use Rattle.hip_script.proofs.LineReads.{row-none, row-some, line-fails, line-reads, line-goes_on}
use Rattle.hip_script.proofs.script.Script.read_line.Goals as goal

pub read_words-requires : goal.read_words-requires
read_words-requires c = c.new-said.ensures.within _

pub returns-in_err-verb-clause-bad : goal.returns-in_err-verb-clause-bad
returns-in_err-verb-clause-bad c = λ _. row-none _ _ c.new-words.ensures (MatchOption-at_none _ _ c.in_err-verb.ensures.ok_part c.row.ensures)

pub returns-in_err-read_words-clause-bad : goal.returns-in_err-read_words-clause-bad
returns-in_err-read_words-clause-bad c = λ is.
    let has = row-some _ _ _ _ _ c.new-words.ensures (MatchOption-at_some _ _ _ c.in_ok-verb.ensures.ok_part c.row.ensures) in
    line-fails _ _ _ _ (held c.args.self.now.buffers) c.new-said.result has (c.new-said.ensures.fields (held c.args.self.now.buffers)) (c.in_err-read_words.ensures.bad (search rules))

pub returns-then-not-is_empty-clause-bad : goal.returns-then-not-is_empty-clause-bad
returns-then-not-is_empty-clause-bad c = λ _.
    let has = row-some _ _ _ _ _ c.new-words.ensures (MatchOption-at_some _ _ _ c.in_ok-verb.ensures.ok_part c.row.ensures) in
    line-goes_on _ _ _ _ _ (held c.args.self.now.buffers) _ c.new-said.result _ has (c.new-said.ensures.fields (held c.args.self.now.buffers)) c.in_ok-read_words.ensures.ok
    (λ none. both_ways _ c.if-not-is_empty.true (c.is_empty.ensures.1 none))

pub returns-clause-ok : goal.returns-clause-ok
returns-clause-ok c =
    let has = row-some _ _ _ _ _ c.new-words.ensures (MatchOption-at_some _ _ _ c.in_ok-verb.ensures.ok_part c.row.ensures) in (
      c.read_words.new.said,
      line-reads _ _ _ _ _ (held c.args.self.now.buffers) _ c.new-said.result _ has c.new-said.ensures.verb (c.new-said.ensures.fields (held c.args.self.now.buffers)) c.in_ok-read_words.ensures.ok
          (c.is_empty.ensures.0 c.if-not-is_empty.false),
      c.in_ok-push.ensures.items,
    )
