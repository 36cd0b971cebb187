use Rattle.std.proofs.Common.{◌≡◌, ◌+◌, length, take}
use Rattle.std.specs.List.{join_by}
use Rattle.hip_raw.specs.Meter.{RisesAtLeast, RisesAtMost}
use Rattle.hip_bytes.proofs.hip_byt.build.joined_in_owner.Given as goal

-- the join so far lies in the owner, with room for the rest
abbrev pub invariant-loop-i : goal.invariant-loop-i
invariant-loop-i g l = record {
  items : l.filling.items ≡ join_by g.P.Piece.bytes l.sep (take l.i l.pieces);
  kept : g.P.Piece.keeps l.filling.items;
  room : l.filling.capacity ≡ l.len;
  counted : RisesAtMost l.fn.meter l.meter (l.len + length l.filling.items);
  copied : RisesAtLeast l.fn.meter l.meter (length l.filling.items);
}
