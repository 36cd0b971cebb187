use Rattle.std.proofs.Common.{ℕ, List}
use Rattle.std.specs.Io.KnownBytes.{Appends}
use Rattle.hip_uses.specs.Shown.{AreShown}
use Rattle.hip_uses.proofs.tools.quoted.print_chars.Given as goal

abbrev pub invariant-loop-c : goal.invariant-loop-c
invariant-loop-c g l = (shown : List ℕ) × AreShown l.yielded shown × Appends (g.W.Write.contents l.fn.out) (g.W.Write.contents l.out) shown
