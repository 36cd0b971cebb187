use Rattle.std.proofs.Common.{arith}
use Rattle.std.specs.Cmp.Lexicographic.{same_text}
use Rattle.hip_uses.proofs.Templates.{pieces_count, value-again}
use Rattle.hip_uses.proofs.template.filling.value_of.Goals as goal

pub overflow_mul-result : goal.overflow_mul-result
overflow_mul-result g c = grind (arith, pieces_count c.args.values.now c.args.earlier.now c.args.pieces.now c.requires.pieces)

pub overflow_add-result : goal.overflow_add-result
overflow_add-result g c = grind (arith, pieces_count c.args.values.now c.args.earlier.now c.args.pieces.now c.requires.pieces)

pub bounds-pieces-place : goal.bounds-pieces-place
bounds-pieces-place g c = omega (arith, pieces_count c.args.values.now c.args.earlier.now c.args.pieces.now c.requires.pieces, c.in-Some.ensures.lookup.3.0)

pub offset_bounds-pieces-place : goal.offset_bounds-pieces-place
offset_bounds-pieces-place g c = grind (arith, pieces_count c.args.values.now c.args.earlier.now c.args.pieces.now c.requires.pieces)

pub returns-then-eq : goal.returns-then-eq
returns-then-eq g c =
    let hole = c.in-Some.hole.now in
    let lookup = c.in-Some.ensures.lookup in
    value-again c.args.values.now c.args.earlier.now c.args.place hole c.args.pieces.now _ c.args.name.now.items (omega (arith, lookup.3.0)) lookup.1 c.requires.pieces c.requires.known
    (same_text hole.name.items c.args.name.now.items c.if-eq.ensures)
