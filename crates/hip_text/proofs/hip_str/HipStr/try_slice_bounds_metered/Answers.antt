use Rattle.std.proofs.Common.{length, le_refl, subst, arith, ◌<◌, ◌≤◌}
use Rattle.hip_bytes.specs.declared.kind.TheConstants.{INLINE_CAPACITY}
use Rattle.std.specs.Str.{IsCharBoundary}
use Rattle.hip_bytes.specs.Kinds.{Holds, cut_kind}
use Rattle.hip_bytes.specs.Meter.{RisesAtMost}
use Rattle.hip_text.proofs.Ranges.{is_range, is_fault}
use Rattle.hip_text.proofs.hip_str.HipStr.try_slice_bounds_metered.Goals as goal

pub part_metered-requires : goal.part_metered-requires
part_metered-requires g c = record {
  ordered = c.in-Ok.ensures.ordered.0;
  in_bounds = subst (λ l. c.in-Ok.end ≤ length l) c.as_str.ensures.items c.in-Ok.ensures.ordered.1;
  start_at_boundary = subst (λ l. IsCharBoundary l c.in-Ok.start) c.as_str.ensures.items c.in-Ok.ensures.boundaries.0;
  end_at_boundary = subst (λ l. IsCharBoundary l c.in-Ok.end) c.as_str.ensures.items c.in-Ok.ensures.boundaries.1;
}

pub of_bounds-requires : goal.of_bounds-requires
of_bounds-requires g c = is_fault c.args.self.now c.args.low c.args.high _ _ _ c.in-Err.is c.as_str.ensures.items c.text_range.ensures.range

pub returns-in-Ok-part_metered : goal.returns-in-Ok-part_metered
returns-in-Ok-part_metered g c =
    let range = is_range c.args.self.now c.args.low c.args.high _ _ _ _ c.in-Ok.is c.as_str.ensures.items c.text_range.ensures.range c.in-Ok.ensures.ordered.0 c.in-Ok.ensures.ordered.1 in
    record {
      slice = (range.valid, subst (λ l. Holds c.in-Ok-part_metered.part (cut_kind c.args.self.now.kind (length l)) l) range.same c.in-Ok-part_metered.ensures.part);
      counted = subst (RisesAtMost _ _) (range.cost _) c.in-Ok-part_metered.ensures.counted;
      copied = c.in-Ok-part_metered.ensures.copied;
    }

pub returns-in-Err-part_metered : goal.returns-in-Err-part_metered
returns-in-Err-part_metered g c =
    let range = is_range c.args.self.now c.args.low c.args.high _ _ _ _ c.in-Ok.is c.as_str.ensures.items c.text_range.ensures.range c.in-Ok.ensures.ordered.0 c.in-Ok.ensures.ordered.1 in
    record {
      slice = (range.valid, (c.in-Err-part_metered.ensures.part.0, subst (λ l. INLINE_CAPACITY < length l) range.same c.in-Err-part_metered.ensures.part.1));
      counted = subst (RisesAtMost _ _) (range.cost _) c.in-Err-part_metered.ensures.counted;
      copied = tt;
    }

pub returns-in-Err : goal.returns-in-Err
returns-in-Err g c = record { slice = c.of_bounds.ensures; counted = record { never_falls = le_refl _; at_most = omega arith }; copied = tt }
