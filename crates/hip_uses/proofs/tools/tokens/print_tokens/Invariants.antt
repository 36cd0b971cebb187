use Rattle.std.proofs.Common.{ℕ, List, map, take}
use Rattle.std.specs.Io.KnownBytes.{Appends}
use Rattle.hip_uses.specs.Listed.{IsTokenLine, PrintedAs, run_of}
use Rattle.hip_uses.proofs.tools.tokens.print_tokens.Given as goal

abbrev pub invariant-loop-token : goal.invariant-loop-token
invariant-loop-token g l =
    (text : List ℕ) × PrintedAs IsTokenLine (map run_of (take l.token-index l.tokens)) text × Appends (g.W.Write.contents l.fn.out) (g.W.Write.contents l.out) text
