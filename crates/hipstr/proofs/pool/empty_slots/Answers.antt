use Rattle.std.proofs.Common.{◌≡◌, ◌∙◌, length, map, replicate, ap, sym, arith}
use Rattle.std.proofs.{lemmas.Grind.common_steps, lemmas.List.length-map, lemmas.List.length-replicate}
use Rattle.hipstr.specs.Slot.{empty_slot, state_of}
use Rattle.hipstr.proofs.pool.empty_slots.Goals as goal

pub returns : goal.returns
returns g c =
    let all : map state_of c.loop.slots.items ≡ replicate c.args.count empty_slot = c.loop.invariant ∙ ap (λ n. replicate n empty_slot) (omega (arith, c.loop-test.false, c.loop.auto.counter-end)) in
    record { empty = all; count = sym (length-map c.loop.slots.items state_of) ∙ ap length all ∙ length-replicate c.args.count empty_slot }

pub loop-preserved : goal.loop-preserved
loop-preserved g c = grind (arith, common_steps)
