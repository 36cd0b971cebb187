use Rattle.std.proofs.Common.{List, ℕ, is_err, ap, subst}
use Rattle.std.specs.Char.Utf16.{utf16_lossy_chars}
use Rattle.hip_bytes.specs.Kinds.{HoldsByLength}
use Rattle.hip_text.proofs.Utf16.{spells-lossy}
use Rattle.hip_text.proofs.hip_str.HipStr.from_utf16.Goals as goal

pub returns : goal.returns
returns g c =
    let spelt = spells-lossy c.args.units.now (is_err c.in-Ok-Ok.field-0) c.in-Ok-Ok.ensures.unpaired (ap is_err c.in-Ok-Ok.field-0-is) in
    let chars = rw c.in-Ok-Ok.field-0-is at c.in-Ok-Ok.ensures.chars in
    record { read = (utf16_lossy_chars c.args.units.now, spelt, subst (λ (bytes : List ℕ). HoldsByLength c.in-Ok.text bytes) chars c.in-Ok.ensures.made) }

pub returns-in_default-from_string : goal.returns-in_default-from_string
returns-in_default-from_string g c =
    record { read = (_, spells-lossy c.args.units.now (is_err c.in-Ok-Ok.field-0) c.in-Ok-Ok.ensures.unpaired (ap is_err c.in-Ok-Ok.field-0-is)) }
