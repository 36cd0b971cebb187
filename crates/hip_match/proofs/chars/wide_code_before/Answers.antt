use Rattle.hip_match.proofs.DecodeLemmas.{before_three, before_four}
use Rattle.hip_match.proofs.chars.wide_code_before.Goals as goal

pub returns-then-second-ge192 : goal.returns-then-second-ge192
returns-then-second-ge192 c =
    let same = c.as_bytes-bytes.ensures.value in
    rw same (before_three _ _ c.utf8.text c.requires.boundary c.requires.some c.requires.wide (rw same at c.if-third-ge192.false) (rw same at c.if-second-ge192.true)).1

pub overflow_sub-first : goal.overflow_sub-first
overflow_sub-first c =
    let same = c.as_bytes-bytes.ensures.value in
    (before_four _ _ c.utf8.text c.requires.boundary c.requires.some c.requires.wide (rw same at c.if-third-ge192.false) (rw same at c.if-second-ge192.false)).0

pub returns : goal.returns
returns c =
    let same = c.as_bytes-bytes.ensures.value in
    rw same (before_four _ _ c.utf8.text c.requires.boundary c.requires.some c.requires.wide (rw same at c.if-third-ge192.false) (rw same at c.if-second-ge192.false)).2
