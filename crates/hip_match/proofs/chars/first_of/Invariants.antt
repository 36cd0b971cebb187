use Rattle.std.proofs.Common.{◌≤◌, ◌-◌, length, IsCharBoundary}
use Rattle.hip_match.specs.Occurrence.{NoneStarts}
use Rattle.hip_match.specs.Characters.{char_ends}
use Rattle.hip_match.proofs.chars.first_of.Given as goal

abbrev pub invariant-loop-at : goal.invariant-loop-at
invariant-loop-at g l = IsCharBoundary l.text l.at × (l.from ≤ l.at) × NoneStarts (char_ends (g.S.CharSet.belongs l.set) l.text) l.from l.at

abbrev pub decreases-loop-at : goal.decreases-loop-at
decreases-loop-at g l = length l.initial.text - l.at
