use Rattle.std.proofs.Common.{◌≡◌, ◌+◌, ◌-◌, [], length, slice_range, ap, arith}
use Rattle.std.proofs.lemmas.List.{append-nil}
use Rattle.hip_text.specs.Handle.{Handle}
use Rattle.hip_match.specs.Joined.{parts_at}
use Rattle.hip_bytes.proofs.Slices.{length-part}
use Rattle.hip_fields.proofs.Fields.{field-next, field-cost}
use Rattle.hip_fields.proofs.line.fields_at.Goals as goal

pub loop-from-preserved : goal.loop-from-preserved
loop-from-preserved g c =
    let source : Handle = c.args.source.now in
    let line = slice_range source.items c.args.start c.args.end in
    let text = slice_range line c.in-Some.from c.in-Some.to in
    let first = ap (parts_at line) c.in-Some.ensures.first in
    let law : text ≡ slice_range source.items (c.args.start + c.in-Some.from) (c.args.start + c.in-Some.to) = rw c.as_str.ensures.items at c.slice_of_slice.ensures.items in
    let ordered = c.slice_of_slice.ensures.ordered in
    let size = ap length c.as_str.ensures.items in
    let long : (c.args.start + c.in-Some.to) - (c.args.start + c.in-Some.from) ≡ length text = rw law (omega (arith, length-part source.items _ _ ordered.0 (omega (arith, ordered.1, size)))) in
    let cost = field-cost g.B.Backend.SHARES source.kind _ _ text _ c.loop-from.meter c.part_metered.new.meter first long c.part_metered.ensures.counted in
    record {
      ready = c.next.ensures.ready;
      text = grind arith;
      fields = field-next source _ _ _ text _ _ c.in_ok-part_metered.field-0 first (rw (← law) at c.in_ok-part_metered.ensures.part) c.in_ok-push.ensures.items c.loop-from.invariant.fields;
      never_falls = omega (arith, cost.0, c.loop-from.invariant.never_falls);
      at_most = omega (arith, cost.1, c.loop-from.invariant.at_most);
    }

pub returns-clause-fields : goal.returns-clause-fields
returns-clause-fields g c = grind (arith, append-nil, c.loop-from.invariant.fields [])
