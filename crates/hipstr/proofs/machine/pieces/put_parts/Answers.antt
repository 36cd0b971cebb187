use Rattle.std.proofs.Common.{◌≡◌, ◌≤◌, ◌∙◌, ◌+◌, ◌++◌, length, map, drop, replicate, ap, refl, sym, arith, rules, length-append, length-take-le}
use borrow.Author.Rules.{scaled_fits≤}
use Rattle.std.proofs.{lemmas.List.drop-map, lemmas.List.map-append, lemmas.Slice.drop-append-drop}
use Rattle.hipstr.specs.Slot.{empty_slot, state_of}
use Rattle.hipstr.proofs.Parts.{parts-swapped}
use Rattle.hipstr.proofs.machine.pieces.put_parts.Goals as goal

pub returns-clause-put : goal.returns-clause-put
returns-clause-put g c =
    rw c.swap_with_slice.ensures.after (parts-swapped (state_of {B = g.row.B.Denot} {S = g.row.B-Sole.Denot} {P = g.row.B-Extent.Denot}) c.args.slots.now c.args.spare.now c.args.first _ c.args.count (omega arith) c.requires.made c.requires.room)

pub returns-clause-emptied : goal.returns-clause-emptied
returns-clause-emptied g c =
    let state = state_of {B = g.row.B.Denot} {S = g.row.B-Sole.Denot} {P = g.row.B-Extent.Denot} in
    let long : length c.swap_with_slice.new.other ≡ c.args.count = c.swap_with_slice.ensures.other_len ∙ length-take-le c.args.count c.args.spare.now c.requires.made in
    let within : c.args.count ≤ length (c.swap_with_slice.new.other ++ drop c.args.count c.args.spare.now) = omega (arith, long, length-append c.swap_with_slice.new.other (drop c.args.count c.args.spare.now)) in
    let empty : map state c.empty_all.new.slots ≡ replicate c.args.count empty_slot = c.empty_all.ensures ∙ ap (λ n. replicate n empty_slot) (length-take-le c.args.count _ within) in
    rw (map-append state c.empty_all.new.slots _, empty, drop-append-drop c.args.count c.args.spare.now c.swap_with_slice.new.other c.args.count (omega arith) long, drop-map state c.args.count c.args.spare.now) refl

pub offset_bounds-slots-first : goal.offset_bounds-slots-first
offset_bounds-slots-first g c = let h : c.args.first ≤ length c.args.slots.now = omega (arith, c.requires.room) in search (rules, scaled_fits≤)

pub slice_bounds-swap_with_slice-count : goal.slice_bounds-swap_with_slice-count
slice_bounds-swap_with_slice-count g c = omega arith

pub slice_bounds-swap_with_slice-end-2 : goal.slice_bounds-swap_with_slice-end-2
slice_bounds-swap_with_slice-end-2 g c = c.requires.made

pub slice_bounds-swap_with_slice-end-3 : goal.slice_bounds-swap_with_slice-end-3
slice_bounds-swap_with_slice-end-3 g c = sym (length-take-le c.args.count c.args.spare.now c.requires.made)

pub slice_bounds-swap_with_slice-start : goal.slice_bounds-swap_with_slice-start
slice_bounds-swap_with_slice-start g c = let h : c.args.first ≤ c.args.first + c.args.count = omega arith in h

pub slice_bounds-swap_with_slice-end : goal.slice_bounds-swap_with_slice-end
slice_bounds-swap_with_slice-end g c = c.requires.room

pub slice_bounds-empty_all-end : goal.slice_bounds-empty_all-end
slice_bounds-empty_all-end g c = search rules

pub overflow_add-first : goal.overflow_add-first
overflow_add-first g c = search rules

pub slice_bounds-empty_all-end-2 : goal.slice_bounds-empty_all-end-2
slice_bounds-empty_all-end-2 g c = search rules
