use Rattle.std.proofs.Common.{◌≡◌, ℕ, List, ◌++◌}
use Rattle.std.specs.Io.KnownBytes.{Appends}
use Rattle.hip_script.proofs.print.write_rest.Given as goal

-- a front was written, and the rest is left
abbrev pub invariant-loop-turn : goal.invariant-loop-turn
invariant-loop-turn g l = (front : List ℕ) × (front ++ l.rest ≡ l.bytes) × Appends (g.W.Write.contents l.fn.out) (g.W.Write.contents l.out) front
