use Rattle.std.proofs.Common.{rules, ◌∙◌, List, ℕ, Some, ap, arith, length-take-le, map, refl, sym, take, take_all}
use Rattle.hip_bytes.specs.JsonItems.{read_items}
use Rattle.hip_bytes.proofs.JsonItems.{are-bytes, first-other}
use Rattle.hip_bytes.proofs.hip_byt.json.fill.Goals as goal

pub returns-in_default-clause-err : goal.returns-in_default-clause-err
returns-in_default-clause-err c =
    let at = c.loop-at.at in
    let room = c.loop-at.room in (
      at,
      refl,
      first-other c.args.items.now (take at room) at c.index-items-at.result c.loop-at-test.true c.index-items-at.is (sym c.byte_in.ensures ∙ search rules) c.loop-at.invariant.filled (sym (length-take-le at room (omega arith))),
    )

pub returns-clause-items : goal.returns-clause-items
returns-clause-items c =
    let at = c.loop-at.at in
    let room = c.loop-at.room in
    let items = c.args.items.now in
    are-bytes items room (ap read_items (sym (take_all at items (omega arith))) ∙ c.loop-at.invariant.filled ∙ ap (λ (bytes : List ℕ). map Some bytes) (take_all at room (omega arith)))
