use Rattle.std.proofs.Common.{◌≡◌, ◌≤◌, map, take, length, vec_len, vec_capacity}
use Rattle.hip_uses.specs.Tallies.{count_and_place, numbered}
use Rattle.hip_uses.proofs.tools.counts.ranked.Given as goal

abbrev pub invariant-loop-place : goal.invariant-loop-place
invariant-loop-place l = record {
  len : vec_len l.rows ≡ l.place;
  room : length l.counts ≤ vec_capacity l.rows;
  is : map count_and_place l.rows.items ≡ numbered (take l.place l.counts);
}
