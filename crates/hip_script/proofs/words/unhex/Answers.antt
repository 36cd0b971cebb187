use Rattle.hip_script.proofs.Decoded.{decoded-none, high-other, hex-short, hex-other, hex-both}
use Rattle.hip_script.proofs.words.unhex.Goals as goal

pub returns-in_err-high-clause-value : goal.returns-in_err-high-clause-value
returns-in_err-high-clause-value c = rw c.from_residual.ensures (decoded-none _ _ c.in_err-high.ensures.cases)

pub returns-in_err-high-2-clause-value : goal.returns-in_err-high-2-clause-value
returns-in_err-high-2-clause-value c =
    rw c.from_residual-in_err-high-2.ensures (high-other _ _ _ c.in_ok-high.ensures.cases.0 c.in_err-high-2.ensures.value)

pub returns-in_err-low-clause-value : goal.returns-in_err-low-clause-value
returns-in_err-low-clause-value c =
    rw c.from_residual-in_err-low.ensures (hex-short _ _ _ c.in_ok-high.ensures.cases.0 c.in_ok-high-2.ensures.value.0 c.in_err-low.ensures.cases)

pub returns-in_err-hex_digit-clause-value : goal.returns-in_err-hex_digit-clause-value
returns-in_err-hex_digit-clause-value c =
    rw c.from_residual-in_err-hex_digit.ensures (hex-other _ _ _ _ _ c.in_ok-high.ensures.cases.0 c.in_ok-high-2.ensures.value.0 c.in_ok-low.ensures.cases.0 c.in_err-hex_digit.ensures.value)

pub returns-clause-value : goal.returns-clause-value
returns-clause-value c =
    hex-both _ _ _ _ _ _ _ c.in_ok-high.ensures.cases.0 c.in_ok-high-2.ensures.value.0 c.in_ok-low.ensures.cases.0 c.in_ok-hex_digit.ensures.value.0
    c.in_ok-high-2.ensures.value.1 c.in_ok-hex_digit.ensures.value.1
