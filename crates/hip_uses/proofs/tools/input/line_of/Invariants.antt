use Rattle.std.proofs.Common.{◌≡◌, ◌≤◌, ◌+◌}
use Rattle.hip_uses.specs.Tools.{line_at}
use Rattle.hip_uses.proofs.tools.input.line_of.Given as goal

abbrev pub invariant-loop-byte : goal.invariant-loop-byte
invariant-loop-byte l = record {
  is : l.line ≡ line_at l.text l.byte-index;
  few : l.line ≤ l.byte-index + 1;
}
