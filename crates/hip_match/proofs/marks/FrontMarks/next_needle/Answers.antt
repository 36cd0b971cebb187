use Rattle.std.proofs.Common.{◌==◌, [], ◌∷◌, refl, sym}
use Rattle.hip_match.specs.Marks.{by_byte, stands}
use Rattle.hip_match.proofs.NeedleLemmas.{ahead_same, same_byte}
use Rattle.hip_match.proofs.marks.FrontMarks.next_needle.Goals as goal

pub read-read-requires-clause-ahead : goal.read-read-requires-clause-ahead
read-read-requires-clause-ahead c = rw (c.in_default.ensures.none refl).1 (ahead_same (stands (c.in-One.byte ∷ [])) (by_byte (λ x. x == c.in-One.byte)) c.args.bytes.now (λ k lt. sym (same_byte c.in-One.byte c.args.bytes.now k lt)) c.args.from _ _ c.requires.within (rw c.in-One.is at c.requires.ahead))
