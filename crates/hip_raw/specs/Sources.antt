-- The sources and sinks of this crate, as clauses see them.
use Rattle.std.specs.Prelude.{ℕ, List}
use Rattle.hip_raw.specs.declared.byte_source.SliceSource.{SliceSource}
use Rattle.hip_raw.specs.declared.byte_source.FromRead.{FromRead}
use Rattle.hip_raw.specs.declared.byte_sink.ToWrite.{ToWrite}

-- the bytes of a slice that are still to come
abbrev pub rest_of : SliceSource → List ℕ
rest_of source = source.rest.now

-- a reader, and how many of its reads failed
abbrev pub reader_of : {R : Type 0} → FromRead R → R
reader_of source = source.reader

abbrev pub failed_reads : {R : Type 0} → FromRead R → ℕ
failed_reads source = source.failures

-- a writer, and how many of its writes failed
abbrev pub writer_of : {W : Type 0} → ToWrite W → W
writer_of sink = sink.writer

abbrev pub failed_writes : {W : Type 0} → ToWrite W → ℕ
failed_writes sink = sink.failures
