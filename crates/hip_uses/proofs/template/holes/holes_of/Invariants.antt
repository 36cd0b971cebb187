use Rattle.std.proofs.Common.{◌≡◌, ◌++◌, ◌-◌, drop, length, All, flat_map, IsCharBoundary}
use Rattle.hip_fields.specs.Records.{fields_cost}
use Rattle.hipstr.specs.Meter.{RisesAtMost}
use Rattle.hip_uses.specs.Template.{AreParts, CutsHoles, hole_texts, written}
use Rattle.hip_uses.proofs.template.holes.holes_of.Given as goal

-- the text up to `from` is cut at its holes
abbrev pub invariant-loop-open : goal.invariant-loop-open
invariant-loop-open g l = record {
  from_at : IsCharBoundary l.text l.from;
  written : written l.holes.items ++ drop l.from l.text ≡ l.text;
  parsed : CutsHoles l.text l.holes.items (drop l.from l.text);
  parts : All (AreParts l.template) l.holes.items;
  counted : RisesAtMost l.fn.meter l.meter (fields_cost g.B.Backend.SHARES l.template.kind (flat_map hole_texts l.holes.items));
}

abbrev pub decreases-loop-open : goal.decreases-loop-open
decreases-loop-open g l = length l.text - l.from
