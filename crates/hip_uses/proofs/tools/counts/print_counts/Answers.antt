use Rattle.std.proofs.Common.{◌∙◌, ◌<◌, length, map, get_or, arith, ap, sym}
use Rattle.std.proofs.lemmas.List.{get_or-map, get_or_default}
use Rattle.hip_uses.specs.Number.{text_bytes}
use Rattle.hip_uses.proofs.Counting.{counts-next}
use Rattle.hip_uses.proofs.tools.counts.print_counts.Goals as goal

pub offset_bounds-texts-row : goal.offset_bounds-texts-row
offset_bounds-texts-row g c = let within : (get_or c.args.rows.now c.loop-row.row-index (record { 0 = 0 }, 0)).1 < length c.args.texts.now = c.requires c.loop-row.row-index _ c.loop-row-test.true in omega (arith, within)

pub bounds-texts-row : goal.bounds-texts-row
bounds-texts-row g c = c.requires c.loop-row.row-index _ c.loop-row-test.true

pub loop-row-preserved : goal.loop-row-preserved
loop-row-preserved g c =
    let row = get_or c.args.rows.now c.loop-row.row-index (record { 0 = 0 }, 0) in
    let within : row.1 < length c.args.texts.now = c.requires c.loop-row.row-index _ c.loop-row-test.true in
    counts-next (map text_bytes c.args.texts.now) c.args.rows.now c.loop-row.row-index row c.as_str.result.now _ _ _ c.loop-row-test.true (get_or_default c.args.rows.now c.loop-row.row-index _ _ c.loop-row-test.true)
    (c.as_str.ensures.items ∙ ap text_bytes c.index-texts-row.is ∙ sym (get_or-map text_bytes c.args.texts.now row.1 c.index-texts-row.result _ within)) c.loop-row.invariant c.in_ok-print_count.ensures
