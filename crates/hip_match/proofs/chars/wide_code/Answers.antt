use Rattle.hip_match.proofs.DecodeLemmas.{second, third, fourth}
use Rattle.hip_match.proofs.chars.wide_code.Goals as goal

pub bounds-bytes-at-2 : goal.bounds-bytes-at-2
bounds-bytes-at-2 c = rw c.as_bytes-bytes.ensures.value (second _ _ c.utf8.text c.requires.boundary c.requires.within c.requires.wide).0

pub bounds-bytes-at-3 : goal.bounds-bytes-at-3
bounds-bytes-at-3 c = rw c.as_bytes-bytes.ensures.value (third _ _ c.utf8.text c.requires.boundary c.requires.within c.requires.wide (rw c.as_bytes-bytes.ensures.value at c.if-first-lt224.false)).0

pub bounds-bytes-at-4 : goal.bounds-bytes-at-4
bounds-bytes-at-4 c = rw c.as_bytes-bytes.ensures.value (fourth _ _ c.utf8.text c.requires.boundary c.requires.within c.requires.wide (rw c.as_bytes-bytes.ensures.value at c.if-first-lt240.false)).0
