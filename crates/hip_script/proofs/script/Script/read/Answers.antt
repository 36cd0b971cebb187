use Rattle.std.proofs.Common.{◌∙◌, arith, refl, sym, map}
use Rattle.std.proofs.lemmas.Bool.{eqb-false}
use Rattle.hip_script.specs.Said.{held, says_in}
use Rattle.hip_script.proofs.ScriptLaws.{script-goes_on, script-ends}
use Rattle.hip_script.proofs.script.Script.read.Goals as goal

pub loop-line-preserved : goal.loop-line-preserved
loop-line-preserved c =
    let some = eqb-false _ _ (sym c.is_empty.ensures ∙ c.if-is_empty.false) in
    let read = c.in-Ok.ensures.ok in
    let on = script-goes_on _ _ _ _ _ c.loop-line.number _ _ _ _ c.loop-line.invariant.within read.1 some c.in-Some.ensures.line
    read.2 c.loop-line.invariant.said in
    record { within = on.0; said = on.1; counted = omega (arith, c.in-Some.ensures.shorter) }

pub returns-clause-script : goal.returns-clause-script
returns-clause-script c = (
  map (says_in (held c.loop-line.script.buffers)) c.loop-line.script.lines.items,
  script-ends _ _ _ _ c.in_default.ensures.none c.loop-line.invariant.said,
  record { within = c.loop-line.invariant.within; say = refl },
)
