use Rattle.std.proofs.Common.{◌≡◌, drop}
use Rattle.hip_script.specs.Grammar.{words_said}
use Rattle.hip_script.specs.Said.{Grows, IsWithin, fields_in, held}
use Rattle.hip_script.proofs.buffers.Buffers.read_words.Given as goal

-- the words that are left say the rest
abbrev pub invariant-loop-word : goal.invariant-loop-word
invariant-loop-word l = record {
  within : IsWithin (held l.self) l.said;
  verb : l.said.verb ≡ l.fn.said.verb;
  grows : Grows (held l.fn.self) (held l.self);
  rest : words_said (drop l.word-index l.list) (fields_in (held l.self) l.said) l.words ≡ words_said l.list (fields_in (held l.fn.self) l.fn.said) l.fn.words;
}
