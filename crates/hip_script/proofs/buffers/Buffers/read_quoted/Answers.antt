use Rattle.std.proofs.Common.{refl}
use Rattle.hip_script.specs.Said.{held}
use Rattle.hip_script.proofs.{Quotes.literal-alone, Quotes.reads-quoted, buffers.Buffers.read_quoted.Goals.in-Nothing, buffers.Buffers.read_quoted.Goals.in_default+in_ok-said-in_default}
use Rattle.hip_script.proofs.buffers.Buffers.read_quoted.Goals as goal

pub returns-clause-ok : goal.returns-clause-ok
returns-clause-ok c =
    let read = c.in_ok-literal.ensures.ok in
    let value = c.in_ok-quoted.ensures.ok in
    elim c.match-said.branch [
      | in-Nothing w ↦
          rw (w.self-is, w.said-is) (reads-quoted _ (held c.args.self.now) _ _ _ _ _ c.args.words.now _ _ _ _ c.requires read value refl
          (literal-alone _ _ _ w.in-Nothing.is value.is_quoted))
      | in_default+in_ok-said-in_default w ↦
          rw (w.self-is, w.said-is) (reads-quoted _ (held c.args.self.now) _ _ _ _ _ c.args.words.now _ _ _ _ c.requires read value w.arguments.ensures w.in_ok-said-in_default.ensures.ok)
    ]
