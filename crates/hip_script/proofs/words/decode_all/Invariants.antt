use Rattle.std.proofs.Common.{◌≡◌, length}
use Rattle.hip_script.specs.{Words.decoded, Words.Place.Plain}
use Rattle.hip_script.proofs.Decoded.{behind}
use Rattle.hip_script.proofs.words.decode_all.Given as goal

-- the bytes that were decoded stand in the buffer
abbrev pub invariant-loop-first : goal.invariant-loop-first
invariant-loop-first l = behind l.buffer.items (decoded Plain l.rest) ≡ behind l.fn.buffer.items (decoded Plain l.text)

abbrev pub decreases-loop-first : goal.decreases-loop-first
decreases-loop-first l = length l.rest
