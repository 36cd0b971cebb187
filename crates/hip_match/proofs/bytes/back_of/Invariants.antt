use Rattle.std.proofs.Common.{length, ◌≤◌}
use Rattle.std.specs.Char.{is_ascii_whitespace}
use Rattle.hip_match.specs.Bytes.{byte_ends}
use Rattle.hip_match.specs.Trims.{IsSequenceBack}
use Rattle.hip_match.proofs.bytes.back_of.Given as goal

abbrev pub invariant-loop-to : goal.invariant-loop-to
invariant-loop-to l = (l.from ≤ l.to) × (l.to ≤ length l.bytes) × IsSequenceBack (byte_ends is_ascii_whitespace l.bytes) l.to (length l.bytes)

abbrev pub decreases-loop-to : goal.decreases-loop-to
decreases-loop-to l = l.to
