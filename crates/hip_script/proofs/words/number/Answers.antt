use Rattle.std.proofs.Common.{rules, ◌+◌, ◌-◌, ◌*◌, ◌^◌, ◌<◌, arith, refl, sym, ap, ◌∙◌, get_or, drop}
use Rattle.hip_script.specs.Words.{number_after}
use Rattle.hip_script.proofs.NumberLaws.{number-is_some, number-ends, number-goes_on, number-stops, number-overflows}
use Rattle.hip_script.proofs.words.number.Goals as goal

pub returns-then-not-is_ascii_digit : goal.returns-then-not-is_ascii_digit
returns-then-not-is_ascii_digit c =
    let word = c.args.word.now in
    let i = c.loop-byte.byte-index in
    let stops = number-stops c.loop-byte.value i _ word c.loop-byte-test.true refl (sym c.is_ascii_digit.ensures.value ∙ c.if-not-is_ascii_digit.true) in
    sym (number-is_some word (omega arith) ∙ sym c.loop-byte.invariant.0 ∙ stops)

pub returns-in_err-checked_mul : goal.returns-in_err-checked_mul
returns-in_err-checked_mul c =
    let word = c.args.word.now in
    let i = c.loop-byte.byte-index in
    let over : c.loop-byte.value * 10 < 2 ^ 64 → ⊥ = c.in_err-checked_mul.ensures in
    let stops = number-overflows c.loop-byte.value i _ word c.loop-byte-test.true refl (sym c.is_ascii_digit.ensures.value ∙ c.if-not-is_ascii_digit.false) (omega arith) in
    c.from_residual.ensures ∙ sym (number-is_some word (omega arith) ∙ sym c.loop-byte.invariant.0 ∙ stops)

pub returns-in_err-value : goal.returns-in_err-value
returns-in_err-value c =
    let word = c.args.word.now in
    let i = c.loop-byte.byte-index in
    let over : c.in_ok-checked_mul.field-0 + (get_or word i 0 - 48) < 2 ^ 64 → ⊥ = c.in_err-value.ensures in
    let product = c.in_ok-checked_mul.ensures in
    let stops = number-overflows c.loop-byte.value i _ word c.loop-byte-test.true refl (sym c.is_ascii_digit.ensures.value ∙ c.if-not-is_ascii_digit.false) (omega arith) in
    c.from_residual-in_err-value.ensures ∙ sym (number-is_some word (omega arith) ∙ sym c.loop-byte.invariant.0 ∙ stops)

pub loop-byte-preserved : goal.loop-byte-preserved
loop-byte-preserved c =
    let word = c.args.word.now in
    let i = c.loop-byte.byte-index in
    let product = c.in_ok-checked_mul.ensures in
    let total = c.in_ok-value.ensures in
    let goes_on = number-goes_on c.loop-byte.value i _ word c.loop-byte-test.true refl (sym c.is_ascii_digit.ensures.value ∙ c.if-not-is_ascii_digit.false) in
    (ap (λ n. number_after n (drop (i + 1) word)) (omega arith) ∙ sym goes_on ∙ c.loop-byte.invariant.0, omega arith)

pub returns : goal.returns
returns c =
    let word = c.args.word.now in
    sym (number-is_some word (search rules) ∙ sym c.loop-byte.invariant.0 ∙ number-ends c.loop-byte.value c.loop-byte.byte-index word (omega arith) c.loop-byte.invariant.1)
