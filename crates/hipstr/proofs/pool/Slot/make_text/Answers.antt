use Rattle.std.proofs.Common.{◌≡◌, ◌∙◌, false, None, Some, if◌then◌else◌, ap, arith}
use Rattle.hip_text.proofs.Texts.{not-is_utf8}
use Rattle.hipstr.specs.{Slot.state_of, Step.text_fault, declared.command.Reason.TheVariants.NotUtf8}
use Rattle.hipstr.proofs.Places.{in_place}
use Rattle.hipstr.proofs.pool.Slot.make_text.Goals as goal

pub returns-in-Err : goal.returns-in-Err
returns-in-Err g c =
    let was : state_of c.args.self.now ≡ record { is_text = false; handle = c.in-Bytes.bytes } = grind (arith, in_place, c.replace.ensures.value, c.in-Bytes.ensures.value) in
    let fault : text_fault (state_of c.args.self.now) ≡ Some NotUtf8 = ap text_fault was ∙ ap (λ b. if b then None else Some NotUtf8) (not-is_utf8 _ c.in-Err.ensures.utf8.1) in
    grind (arith, in_place, was, fault, c.into_bytes.ensures, c.in-Err.ensures.utf8.0)
