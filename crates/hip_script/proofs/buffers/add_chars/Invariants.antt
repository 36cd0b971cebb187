use Rattle.std.proofs.Common.{◌≡◌, ◌++◌}
use Rattle.hip_script.proofs.buffers.add_chars.Given as goal

abbrev pub invariant-loop-c : goal.invariant-loop-c
invariant-loop-c l = l.buffer.items ≡ l.fn.buffer.items ++ l.yielded
