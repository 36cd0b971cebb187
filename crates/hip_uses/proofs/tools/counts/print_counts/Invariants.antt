use Rattle.std.proofs.Common.{map, take}
use Rattle.std.specs.Io.KnownBytes.{Appends}
use Rattle.hip_uses.specs.{Number.text_bytes, Tallies.named_lines}
use Rattle.hip_uses.proofs.tools.counts.print_counts.Given as goal

abbrev pub invariant-loop-row : goal.invariant-loop-row
invariant-loop-row g l = Appends (g.W.Write.contents l.fn.out) (g.W.Write.contents l.out) (named_lines (map text_bytes l.texts) (take l.row-index l.rows))
