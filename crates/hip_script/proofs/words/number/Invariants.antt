use Rattle.std.proofs.Common.{◌≡◌, ◌<◌, ◌^◌, drop}
use Rattle.hip_script.specs.Words.{number_after}
use Rattle.hip_script.proofs.words.number.Given as goal

abbrev pub invariant-loop-byte : goal.invariant-loop-byte
invariant-loop-byte l = (number_after l.value (drop l.byte-index l.word) ≡ number_after 0 l.word) × (l.value < 2 ^ 64)
