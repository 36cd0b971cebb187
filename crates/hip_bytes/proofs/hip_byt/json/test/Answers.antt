use Rattle.std.proofs.Common.{rules, ◌∙◌, [], ◌∷◌, ◌++◌, ap, arith, length-append, refl, sym, take_all}
use Rattle.hip_bytes.specs.JsonItems.{read_items}
use Rattle.hip_bytes.proofs.JsonItems.{are-bytes, first-other, read-more}
use Rattle.hip_bytes.proofs.hip_byt.json.test.Goals as goal

pub returns-in_default-clause-err : goal.returns-in_default-clause-err
returns-in_default-clause-err c =
    let (bytes, read, same) = c.loop-i.invariant in
    (c.loop-i.i, refl, first-other c.args.items.now bytes c.loop-i.i c.index-items-i.result c.loop-i-test.true c.index-items-i.is (sym c.byte_in.ensures ∙ search rules) read same)

pub loop-i-preserved : goal.loop-i-preserved
loop-i-preserved c =
    let (bytes, read, same) = c.loop-i.invariant in
    let byte = c.in-Some._byte in (
      bytes ++ byte ∷ [],
      read-more c.args.items.now bytes c.loop-i.i byte c.index-items-i.result c.loop-i-test.true c.index-items-i.is (sym c.byte_in.ensures ∙ search rules) read,
      omega (arith, length-append bytes (byte ∷ [])),
    )

pub returns-clause-items : goal.returns-clause-items
returns-clause-items c =
    let (bytes, read, same) = c.loop-i.invariant in
    let items = c.args.items.now in
    (bytes, are-bytes items bytes (ap read_items (sym (take_all c.loop-i.i items (omega arith))) ∙ read), omega arith)
