use Rattle.std.proofs.lemmas.Str.{is_utf8-from_IsUtf8}
use Rattle.hip_script.proofs.Quotes.{utf8-none}
use Rattle.hip_script.proofs.buffers.text_of.Goals as goal

pub returns-in-Ok-clause-text : goal.returns-in-Ok-clause-text
returns-in-Ok-clause-text c = (c.in-Ok.ensures.cases.0, is_utf8-from_IsUtf8 _ c.in-Ok.ensures.cases.1)

pub returns-in-Err-clause-bad : goal.returns-in-Err-clause-bad
returns-in-Err-clause-bad c _ = utf8-none _ c.in-Err.ensures.cases.0
