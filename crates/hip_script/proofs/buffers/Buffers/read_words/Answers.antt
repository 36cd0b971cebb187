use Rattle.std.proofs.Common.{refl}
use Rattle.hip_script.proofs.Growth.{grows-none}
use Rattle.hip_script.proofs.buffers.Buffers.read_words.Goals as goal

pub loop-word-init : goal.loop-word-init
loop-word-init c = record { within = c.requires; verb = refl; grows = grows-none _; rest = refl }
