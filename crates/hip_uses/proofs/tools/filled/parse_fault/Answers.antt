use Rattle.std.proofs.Common.{arith}
use Rattle.hip_uses.proofs.Filling.{unclosed-at}
use Rattle.hip_uses.proofs.tools.filled.parse_fault.Goals as goal

pub overflow_sub-place : goal.overflow_sub-place
overflow_sub-place g c =
    let is = unclosed-at c.args.text.now.items c.in-Unclosed.behind 0 (rw c.in-Unclosed.is at c.requires) in
    omega (arith, is.0, c.len.ensures.len, c.len-in-Unclosed.ensures.len)

pub overflow_sub-place-in-Unclosed : goal.overflow_sub-place-in-Unclosed
overflow_sub-place-in-Unclosed g c =
    let is = unclosed-at c.args.text.now.items c.in-Unclosed.behind 0 (rw c.in-Unclosed.is at c.requires) in
    omega (arith, is.1, c.len.ensures.len, c.len-in-Unclosed.ensures.len)

pub returns-in-Unclosed : goal.returns-in-Unclosed
returns-in-Unclosed g c =
    let is = unclosed-at c.args.text.now.items c.in-Unclosed.behind c.line_of.result (rw c.in-Unclosed.is at c.requires) in
    is.2 (rw (c.as_bytes.ensures.items, c.len.ensures.len, c.len-in-Unclosed.ensures.len) at c.line_of.ensures)
