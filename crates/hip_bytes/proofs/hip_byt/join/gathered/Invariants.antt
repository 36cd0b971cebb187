use Rattle.std.proofs.Common.{◌≡◌, ◌+◌, nat_le, length, if◌then◌else◌}
use Rattle.std.specs.List.{join_by}
use Rattle.hip_raw.specs.Meter.{RisesAtLeast, RisesAtMost}
use Rattle.hip_bytes.specs.Join.{gap_at}
use Rattle.hip_bytes.specs.declared.kind.TheConstants.{INLINE_CAPACITY}
use Rattle.hip_bytes.proofs.hip_byt.join.gathered.Given as goal

-- the join so far stands there, and the gap before the next piece
abbrev pub invariant-loop-piece : goal.invariant-loop-piece
invariant-loop-piece g l = record {
  items : l.made.items ≡ join_by g.P.Piece.bytes l.sep l.yielded;
  kept : g.P.Piece.keeps l.made.items;
  gap : l.gap ≡ gap_at (length l.yielded) l.sep;
  place : l.made.in_handle ≡ nat_le (length l.made.items) INLINE_CAPACITY;
  counted : RisesAtMost l.fn.meter l.meter (length l.made.items + (if l.made.in_handle then 0 else INLINE_CAPACITY));
  copied : RisesAtLeast l.fn.meter l.meter (length l.made.items);
}
