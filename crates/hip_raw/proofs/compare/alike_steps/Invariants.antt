use Rattle.std.proofs.Common.{◌-◌, ◌≤◌}
use Rattle.hip_raw.specs.Alike.{Alike}
use Rattle.hip_raw.proofs.compare.alike_steps.Given as goal

-- the bytes before `at` are the same
abbrev pub invariant-loop-at : goal.invariant-loop-at
invariant-loop-at l = record {
  within : l.at ≤ l.n;
  alike : Alike l.a l.b 0 l.at;
}

abbrev pub decreases-loop-at : goal.decreases-loop-at
decreases-loop-at l = l.n - l.at
