use Rattle.std.proofs.Common.{map, take}
use Rattle.hip_script.proofs.Plays.{IsBetweenLines}
use Rattle.hip_script.specs.{Said.held, Said.says_in, Told.says}
use Rattle.hip_script.proofs.play.play_lines.Given as goal

-- the text that was written may be written for the lines so far, without those that wait
abbrev pub invariant-loop-said : goal.invariant-loop-said
invariant-loop-said g l = IsBetweenLines g.B.Backend.SHARES (map (says_in (held l.script.buffers)) (take l.said-index l.script.lines.items)) (map says l.commands.items)
    (record { slots = l.pool; counted = l.meter; written = g.W.Write.contents l.out }) (g.W.Write.contents l.fn.out)
