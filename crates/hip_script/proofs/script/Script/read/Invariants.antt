use Rattle.std.proofs.Common.{◌≡◌, ◌+◌, ◌≤◌, length, map}
use Rattle.std.specs.List.{AllByRecursion}
use Rattle.hip_script.specs.{Grammar.lines_said, Lines.lines}
use Rattle.hip_script.specs.Said.{IsWithin, held, says_in}
use Rattle.hip_script.proofs.ScriptLaws.{put_before}
use Rattle.hip_script.proofs.script.Script.read.Given as goal

-- the lines that were read, and then those that are left
abbrev pub invariant-loop-line : goal.invariant-loop-line
invariant-loop-line l = record {
  within : AllByRecursion (IsWithin (held l.script.buffers)) l.script.lines.items;
  said : put_before (map (says_in (held l.script.buffers)) l.script.lines.items) (lines_said (l.number + 1) (lines l.rest)) ≡ lines_said 1 (lines l.input);
  counted : l.number + length l.rest ≤ length l.input;
}

abbrev pub decreases-loop-line : goal.decreases-loop-line
decreases-loop-line l = length l.rest
