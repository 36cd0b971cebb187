use Rattle.std.proofs.Common.{◌≡◌, ◌<◌, ◌^◌, length}
use Rattle.hipstr.specs.Step.{joined_slots}
use Rattle.hipstr.proofs.pool.Pool.joined_len.Given as goal

-- the length of the join so far
abbrev pub invariant-loop-i : goal.invariant-loop-i
invariant-loop-i g l = record { len : l.len ≡ length (joined_slots l.self l.first l.i l.sep); fits : l.len < 2 ^ 64 }
