use Rattle.std.proofs.Common.{◌≡◌, ◌-◌, ◌≤◌, length, map, take, drop}
use Rattle.hip_raw.proofs.ascii_case.move_letters.Given as goal

-- the bytes before `at` are moved, and the rest is as it was
abbrev pub invariant-loop-at : goal.invariant-loop-at
invariant-loop-at g l = record {
  within : l.at ≤ l.n;
  long : length l.initial.bytes ≡ l.n;
  done : take l.at l.bytes ≡ map g.C.Case.moved (take l.at l.initial.bytes);
  kept : drop l.at l.bytes ≡ drop l.at l.initial.bytes;
}

abbrev pub decreases-loop-at : goal.decreases-loop-at
decreases-loop-at g l = l.n - l.at
