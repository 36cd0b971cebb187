use Rattle.hip_text.proofs.Utf16.{spells-more, spells-all}
use Rattle.hip_text.proofs.hip_str.utf16.first_unpaired.Goals as goal

pub loop-unit-preserved : goal.loop-unit-preserved
loop-unit-preserved c =
    spells-more c.args.units.now c.loop-unit.rest.now c.in-Some.unit.now c.in-Some.after.now c.in-Some-behind.later.now c.loop-unit.invariant c.in-Some.ensures.cases.0 c.in-Some-behind.ensures.some

pub returns-clause-none : goal.returns-clause-none
returns-clause-none c = spells-all c.args.units.now c.loop-unit.rest.now c.loop-unit.invariant c.in_default.ensures.cases
