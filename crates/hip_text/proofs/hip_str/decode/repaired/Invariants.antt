use Rattle.std.proofs.Common.{◌≡◌, ◌++◌, IsUtf8}
use Rattle.std.specs.Str.Chunks.{utf8_chunks_rest}
use Rattle.std.specs.Str.Lossy.{utf8_lossy}
use Rattle.hip_text.proofs.hip_str.decode.repaired.Given as goal

-- the text so far and what the rest of the bytes gives are what all give
abbrev pub invariant-loop-chunk : goal.invariant-loop-chunk
invariant-loop-chunk l = (l.text.items ++ utf8_lossy (utf8_chunks_rest l.chunk-iterator) ≡ utf8_lossy l.fn.bytes) × IsUtf8 l.text.items
