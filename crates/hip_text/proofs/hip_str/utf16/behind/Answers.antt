use Rattle.std.proofs.Common.{arith}
use Rattle.hip_text.proofs.Utf16.{behind-low, behind-high, behind-pair, unpaired-low, unpaired-last, unpaired-before}
use Rattle.hip_text.proofs.hip_str.utf16.behind.Goals.{then-unit-lt55296-via-then-unit-lt55296, then-unit-lt55296-via-else-unit-lt55296+then-unit-ge57344, then-low-lt56320-via-then-low-lt56320, then-low-lt56320-via-else-low-lt56320+then-low-ge57344}
use Rattle.hip_text.proofs.hip_str.utf16.behind.Goals as goal

pub returns-then-unit-lt55296-clause-some : goal.returns-then-unit-lt55296-clause-some
returns-then-unit-lt55296-clause-some c = elim c.then-unit-lt55296.branch [
  | then-unit-lt55296-via-then-unit-lt55296 w ↦ behind-low c.args.unit c.args.after.now w.if-unit-lt55296.true
  | then-unit-lt55296-via-else-unit-lt55296+then-unit-ge57344 w ↦ behind-high c.args.unit c.args.after.now w.if-unit-ge57344.true (omega (arith, c.ranges.unit.fits))
]

pub returns-then-unit-ge56320-clause-none : goal.returns-then-unit-ge56320-clause-none
returns-then-unit-ge56320-clause-none c = unpaired-low c.args.unit c.args.after.now c.if-unit-ge56320.true c.if-unit-ge57344.false

pub returns-in_err-low-clause-none : goal.returns-in_err-low-clause-none
returns-in_err-low-clause-none c =
    rw c.from_residual.ensures (unpaired-last c.args.unit c.args.after.now c.if-unit-lt55296.false c.if-unit-ge57344.false c.in_err-low.ensures.cases)

pub returns-then-low-lt56320-clause-none : goal.returns-then-low-lt56320-clause-none
returns-then-low-lt56320-clause-none c =
    unpaired-before c.args.unit c.in_ok-low.low.now c.args.after.now c.in_ok-low.rest.now c.if-unit-lt55296.false c.if-unit-ge57344.false c.in_ok-low.ensures.cases.0 (elim c.then-low-lt56320.branch [
      | then-low-lt56320-via-then-low-lt56320 w ↦ λ from. absurd (omega (arith, from, w.if-low-lt56320.true))
      | then-low-lt56320-via-else-low-lt56320+then-low-ge57344 w ↦ λ from. w.if-low-ge57344.true
    ])

pub returns-clause-some : goal.returns-clause-some
returns-clause-some c =
    behind-pair c.args.unit c.in_ok-low.low.now c.args.after.now c.in_ok-low.rest.now c.if-unit-lt55296.false c.if-unit-ge56320.false c.in_ok-low.ensures.cases.0 c.if-low-lt56320.false c.if-low-ge57344.false
