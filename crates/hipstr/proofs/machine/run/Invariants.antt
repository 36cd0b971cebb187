use Rattle.std.proofs.Common.{◌≡◌, ◌+◌, ◌≤◌, ℕ, false, length, take, vec_len, vec_capacity}
use Rattle.hip_bytes.specs.Meter.{RisesAtLeast, RisesAtMost}
use Rattle.hipstr.specs.{Amortised.pots, Amortised.RunAmortised, Run.Run}
use Rattle.hipstr.proofs.machine.run.Given as goal

-- the answers so far are those to the commands so far, within their cost, and there is room for the rest
abbrev pub invariant-loop-command : goal.invariant-loop-command
invariant-loop-command g l = record {
  run : (least most : ℕ) × Run g.B.Backend.SHARES l.fn.pool (take l.command-index l.commands) l.answers.items l.pool least most × RisesAtLeast l.fn.meter l.meter least × RisesAtMost l.fn.meter l.meter most;
  amortised : g.B.Backend.SHARES ≡ false → (total : ℕ) × RunAmortised g.B.Backend.SHARES l.fn.pool (take l.command-index l.commands) l.answers.items l.pool total × (l.meter + pots l.pool ≤ l.fn.meter + pots l.fn.pool + total);
  answered : vec_len l.answers ≡ l.command-index;
  room : length l.commands ≤ vec_capacity l.answers;
}
