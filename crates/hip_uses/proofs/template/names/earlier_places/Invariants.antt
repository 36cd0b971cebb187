use Rattle.std.proofs.Common.{◌≡◌, ◌≤◌, length, vec_len, vec_capacity}
use Rattle.hip_uses.proofs.template.names.earlier_places.Given as goal

-- there is room for a place of each hole
abbrev pub invariant-loop-place : goal.invariant-loop-place
invariant-loop-place g l = record {
  counted : vec_len l.earlier_places ≡ l.place;
  room : length l.holes ≤ vec_capacity l.earlier_places;
}
