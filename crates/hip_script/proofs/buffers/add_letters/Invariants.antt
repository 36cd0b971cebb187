use Rattle.std.proofs.Common.{◌≡◌, drop}
use Rattle.hip_script.specs.Words.{letters_of}
use Rattle.hip_script.proofs.Letters.{ends_behind}
use Rattle.hip_script.proofs.buffers.add_letters.Given as goal

-- the ends that were added, and then those of the letters that are left
abbrev pub invariant-loop-letter : goal.invariant-loop-letter
invariant-loop-letter l = ends_behind l.buffer.items (letters_of (drop l.letter-index l.letters)) ≡ ends_behind l.fn.buffer.items (letters_of l.letters)
