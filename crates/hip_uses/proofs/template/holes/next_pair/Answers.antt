use Rattle.std.proofs.Common.{arith}
use Rattle.hipstr.specs.CharLaws.{char_ends-spans}
use Rattle.hip_uses.proofs.Holes.{finds-byte, next-behind, none-before, none-here, none-left, pair-found}
use Rattle.hip_uses.proofs.template.holes.next_pair.Goals as goal

pub returns-in_err-start : goal.returns-in_err-start
returns-in_err-start c = rw c.from_residual.ensures (none-left _ _ _ _ (finds-byte _ _ _ c.from.ensures c.requires.ascii c.utf8.text) c.in_err-start.ensures)

pub returns-then-has_byte : goal.returns-then-has_byte
returns-then-has_byte c =
    let found = c.in_ok-start.ensures in
    let brace = finds-byte _ _ _ c.from.ensures c.requires.ascii c.utf8.text in
    record { after = found.after; is = pair-found _ _ _ _ _ brace found.occurs (rw (← c.as_bytes.ensures.value) c.if-has_byte.ensures); first = none-before _ _ _ _ _ _ brace found }

pub text_place-requires : goal.text_place-requires
text_place-requires c = (char_ends-spans _ _ _ _ c.utf8.text c.in_ok-start.ensures.occurs).end

pub returns : goal.returns
returns c =
    let found = c.in_ok-start.ensures in
    let brace = finds-byte _ _ _ c.from.ensures c.requires.ascii c.utf8.text in
    next-behind _ _ _ _ _ _ c.requires.both c.requires.ascii c.utf8.text (omega (arith, found.after, brace.one_byte _ _ found.occurs))
    (none-here _ _ _ _ _ _ brace found (rw (← c.as_bytes.ensures.value) c.if-has_byte.ensures)) c.text_place.ensures
