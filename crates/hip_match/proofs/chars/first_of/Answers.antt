use Rattle.std.proofs.Common.{slice_index, ap, sym, ◌∙◌, arith}
use Rattle.hip_match.specs.CharLaws.{char_at-ascii}
use Rattle.hip_match.proofs.SetLemmas.{first_step, moved}
use Rattle.hip_match.proofs.chars.first_of.Goals as goal

pub loop-at-preserved-then-first-lt128 : goal.loop-at-preserved-then-first-lt128
loop-at-preserved-then-first-lt128 g c =
    let same = c.as_bytes-bytes.ensures.value in
    let here = char_at-ascii c.args.text.now c.loop-at.at c.utf8.text c.loop-at.invariant.0 (omega (arith, c.as_bytes-bytes.ensures.len)) (omega (arith, ap (λ l. slice_index l c.loop-at.at) same)) in
    ((moved c.args.text.now _ _ _ c.utf8.text here).1, omega (arith, c.loop-at.invariant.1), first_step _ c.args.text.now c.utf8.text _ _ _ _ here (rw same at (sym c.has.ensures ∙ c.if-has.false)) c.loop-at.invariant.2)

pub loop-at-preserved : goal.loop-at-preserved
loop-at-preserved g c =
    let found = moved c.args.text.now _ _ _ c.utf8.text c.wide_char_from-c.ensures in
    (found.1, omega (arith, found.0, c.loop-at.invariant.1), first_step _ c.args.text.now c.utf8.text _ _ _ _ c.wide_char_from-c.ensures (sym c.has-in-loop-at.ensures ∙ c.if-has-2.false) c.loop-at.invariant.2)

pub loop-at-smaller : goal.loop-at-smaller
loop-at-smaller g c = omega (arith, c.loop-at-test.true, c.as_bytes-bytes.ensures.len, (moved c.args.text.now _ _ _ c.utf8.text c.wide_char_from-c.ensures).0)
