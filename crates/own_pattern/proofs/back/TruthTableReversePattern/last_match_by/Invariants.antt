use Rattle.std.proofs.Common.{◌≡◌, ℕ, ◌<◌, ◌≤◌, Some}
use Rattle.hipstr.specs.Characters.{char_ends}
use Rattle.own_pattern.specs.Table.{in_table}
use Rattle.own_pattern.proofs.back.TruthTableReversePattern.last_match_by.Given as goal

abbrev pub invariant-loop-at : goal.invariant-loop-at
invariant-loop-at l = record {
  within : l.at ≤ l.to;
  last : (a b : ℕ) → char_ends (in_table l.self) l.text a ≡ Some b → l.at < b → l.to < b;
}

abbrev pub decreases-loop-at : goal.decreases-loop-at
decreases-loop-at l = l.at
