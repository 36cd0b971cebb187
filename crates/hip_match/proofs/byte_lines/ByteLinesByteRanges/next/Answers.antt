use Rattle.std.proofs.Common.{◌∙◌, sym}
use Rattle.std.proofs.lemmas.Bool.{false≢true}
use Rattle.hip_match.proofs.LineLemmas.{next-line}
use Rattle.hip_match.proofs.byte_lines.ByteLinesByteRanges.next.Goals as goal
use Rattle.hip_match.proofs.byte_lines.ByteLinesByteRanges.next.Goals.{else-self-via-then-self+else-self-2, else-self-via-else-self}

pub returns-clause-first : goal.returns-clause-first
returns-clause-first c =
    rw c.without_return.ensures.value
    (next-line c.args.self.now.parts.bytes.now c.next.new.self.bytes.now _ _ _ _ _ _ _ c.next.ensures.bytes c.in_ok-start.ensures.first (λ is_open done. elim c.else-self.branch [
      | else-self-via-then-self+else-self-2 w ↦ absurd (false≢true (sym w.if-self-2.false ∙ done))
      | else-self-via-else-self w ↦ absurd (false≢true (sym w.if-self.false ∙ is_open))
    ]))
