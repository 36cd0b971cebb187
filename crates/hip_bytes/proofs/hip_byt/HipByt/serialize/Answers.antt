use Rattle.std.proofs.Common.{rules, ◌∙◌, ◌++◌, arith, length-append, sym}
use Rattle.std.proofs.lemmas.Grind.{common_steps}
use Rattle.std.proofs.KnownBytes.{Appends-trans}
use Rattle.hip_bytes.proofs.Forms.{split-head, split-rest, written-part}
use Rattle.hip_bytes.proofs.hip_byt.HipByt.serialize.Goals as goal

pub returns-in_err-write_whole-clause-written : goal.returns-in_err-write_whole-clause-written
returns-in_err-write_whole-clause-written g c =
    let items = c.args.self.now.items in
    let (front, rest, split, some, wrote) = c.in_err-write_whole.ensures.moved in
    let whole = split-head items c.to_le_bytes.result front rest c.in-Ok.len c.to_le_bytes.ensures (search rules) split in
    written-part _ items front (rest ++ items) _ _ c.from_residual.ensures.1 (search rules) whole (omega (arith, length-append rest items)) wrote

pub returns-in_err-write_whole-2-clause-written : goal.returns-in_err-write_whole-2-clause-written
returns-in_err-write_whole-2-clause-written g c =
    let items = c.args.self.now.items in
    let head = c.to_le_bytes.result in
    let (front, rest, split, some, wrote) = c.in_err-write_whole-2.ensures.moved in
    let whole = split-rest items head front rest c.in-Ok.len c.to_le_bytes.ensures (search rules) (sym c.as_slice-bytes.ensures.items ∙ split) in
    written-part _ items (head ++ front) rest _ _ c.from_residual-in_err-write_whole-2.ensures.1 (search rules) whole some (Appends-trans _ _ _ _ _ c.in_ok-write_whole.ensures.moved wrote)

pub returns-clause-written : goal.returns-clause-written
returns-clause-written g c = grind (arith, common_steps)
