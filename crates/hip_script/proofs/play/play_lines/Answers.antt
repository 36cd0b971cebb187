use Rattle.std.proofs.{Common.rules, lemmas.Result.on_ok_weaker}
use Rattle.hip_script.specs.{Performed.Place, Said.held}
use Rattle.hip_script.proofs.Plays.{between-none, cut-at, cut-last, played-front, played-last, played-next}
use Rattle.hip_script.proofs.play.play_lines.Goals as goal

pub loop-said-init : goal.loop-said-init
loop-said-init g c = rw c.in_ok-commands.ensures.items (between-none _ _ _ _ c.in_ok-pool.ensures.slots c.new-meter.ensures)

pub returns-in_err-play_line-clause-memory : goal.returns-in_err-play_line-clause-memory
returns-in_err-play_line-clause-memory g c = λ is.
    let place : Place = record { slots = c.loop-said.pool; counted = c.loop-said.meter; written = g.W.Write.contents c.loop-said.out } in
    played-front _ (held c.args.script.now.buffers) _ c.loop-said.said-index _ place _ _ (c.in_err-play_line.ensures.memory (search rules)) c.loop-said.invariant

pub loop-said-preserved : goal.loop-said-preserved
loop-said-preserved g c =
    let place : Place = record { slots = c.loop-said.pool; counted = c.loop-said.meter; written = g.W.Write.contents c.loop-said.out } in
    let new : Place = record { slots = c.play_line.new.pool; counted = c.play_line.new.meter; written = g.W.Write.contents c.play_line.new.out } in
    played-next _ _ _ _ _ _ _ _ _ place new _ c.deref-said-items.ensures.value c.loop-said-test.true c.line.ensures c.loop-said.invariant c.in_ok-play_line.ensures.ok

pub returns-clause-ok : goal.returns-clause-ok
returns-clause-ok g c =
    let place : Place = record { slots = c.loop-said.pool; counted = c.loop-said.meter; written = g.W.Write.contents c.loop-said.out } in
    let new : Place = record { slots = c.perform.new.pool; counted = c.perform.new.meter; written = g.W.Write.contents c.perform.new.out } in
    on_ok_weaker c.perform.result
    (λ performs. played-last _ _ _ _ _ _ _ place new _ c.deref-said-items.ensures.value c.loop-said-test.false c.as_slice.ensures.value c.loop-said.invariant.so_far performs)
    c.perform.ensures.ok

pub returns-clause-memory : goal.returns-clause-memory
returns-clause-memory g c = λ is.
    let place : Place = record { slots = c.loop-said.pool; counted = c.loop-said.meter; written = g.W.Write.contents c.loop-said.out } in
    played-front _ (held c.args.script.now.buffers) _ c.loop-said.said-index _ place _ _ (c.perform.ensures.memory is) c.loop-said.invariant

pub returns-in_err-play_line-clause-failed : goal.returns-in_err-play_line-clause-failed
returns-in_err-play_line-clause-failed g c = λ is.
    let place : Place = record { slots = c.loop-said.pool; counted = c.loop-said.meter; written = g.W.Write.contents c.loop-said.out } in
    cut-at _ _ _ _ _ _ _ _ place _ _ c.deref-said-items.ensures.value c.loop-said-test.true c.line.ensures c.loop-said.invariant.so_far (c.in_err-play_line.ensures.failed (search rules))

pub returns-clause-failed : goal.returns-clause-failed
returns-clause-failed g c = λ is.
    let place : Place = record { slots = c.loop-said.pool; counted = c.loop-said.meter; written = g.W.Write.contents c.loop-said.out } in
    cut-last _ _ _ _ _ _ _ place _ _ c.deref-said-items.ensures.value c.loop-said-test.false c.as_slice.ensures.value c.loop-said.invariant.so_far (c.perform.ensures.failed is)
