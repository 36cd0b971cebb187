use Rattle.std.proofs.Common.{◌≡◌, ◌+◌, ◌≤◌, ◌++◌, List, length, slice_range}
use Rattle.hip_text.specs.Handle.{Handle}
use Rattle.hip_match.specs.Joined.{parts_at}
use Rattle.hip_fields.specs.Records.{AreFields, fields_cost}
use Rattle.hip_fields.proofs.line.fields_at.Given as goal

-- with the fields at the ranges that are left, these are the fields at all
abbrev pub invariant-loop-from : goal.invariant-loop-from
invariant-loop-from g l = record {
  ready : g.I.Ranges.ready l.ranges;
  text : g.I.Ranges.text l.ranges ≡ g.I.Ranges.text l.initial.ranges;
  fields : (more : List Handle) → AreFields l.source (parts_at (slice_range l.source.items l.start l.end) (g.I.Ranges.rest l.ranges)) more
      → AreFields l.source (parts_at (slice_range l.source.items l.start l.end) (g.I.Ranges.rest l.initial.ranges)) (l.fields.items ++ more);
  never_falls : l.initial.meter ≤ l.meter;
  at_most : l.meter + fields_cost g.B.Backend.SHARES l.source.kind (parts_at (slice_range l.source.items l.start l.end) (g.I.Ranges.rest l.ranges))
      ≤ l.initial.meter + fields_cost g.B.Backend.SHARES l.source.kind (parts_at (slice_range l.source.items l.start l.end) (g.I.Ranges.rest l.initial.ranges));
}

abbrev pub decreases-loop-from : goal.decreases-loop-from
decreases-loop-from g l = length (g.I.Ranges.rest l.ranges)
