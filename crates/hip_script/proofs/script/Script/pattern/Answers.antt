use Rattle.hip_script.specs.Said.{held}
use Rattle.hip_script.proofs.Quotes.{text-is_one}
use Rattle.hip_script.proofs.script.Script.pattern.Goals as goal

pub returns-in-Err : goal.returns-in-Err
returns-in-Err c =
    absurd (text-is_one (held c.args.self.now.buffers) _ c.in-DecodedText.span _ _ c.in-DecodedText.is (rw c.arguments.ensures c.requires.arguments.quoted) c.deref.ensures.value c.of.ensures c.in-Err.ensures.cases.0)
