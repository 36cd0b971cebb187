use Rattle.std.proofs.Common.{◌≡◌, ◌*◌, ◌≤◌, length, take, vec_len, vec_capacity}
use Rattle.hip_uses.specs.Template.{AllKnown, all_shown, woven}
use Rattle.hip_uses.proofs.template.filling.pieces_of.Given as goal

abbrev pub invariant-loop-place : goal.invariant-loop-place
invariant-loop-place g l = record {
  known : AllKnown l.values (take l.place l.hole-items);
  pieces : all_shown l.pieces.items ≡ woven l.values (take l.place l.hole-items);
  counted : vec_len l.pieces ≡ 2 * l.place;
  meter : l.meter ≡ l.fn.meter;
  room : 2 * length l.hole-items ≤ vec_capacity l.pieces;
}
