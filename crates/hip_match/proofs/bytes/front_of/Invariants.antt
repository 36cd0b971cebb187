use Rattle.std.proofs.Common.{length, ◌-◌, ◌≤◌}
use Rattle.std.specs.Char.{is_ascii_whitespace}
use Rattle.hip_match.specs.Bytes.{byte_ends}
use Rattle.hip_match.specs.Trims.{IsSequence}
use Rattle.hip_match.proofs.bytes.front_of.Given as goal

abbrev pub invariant-loop-at : goal.invariant-loop-at
invariant-loop-at l = (l.at ≤ length l.bytes) × IsSequence (byte_ends is_ascii_whitespace l.bytes) 0 l.at

abbrev pub decreases-loop-at : goal.decreases-loop-at
decreases-loop-at l = length l.bytes - l.at
