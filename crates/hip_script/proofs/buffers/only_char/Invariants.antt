use Rattle.hip_script.proofs.Letters.{IsOnly}
use Rattle.hip_script.proofs.buffers.only_char.Given as goal

abbrev pub invariant-loop-c : goal.invariant-loop-c
invariant-loop-c l = IsOnly l.found l.yielded
