use Rattle.std.proofs.Common.{◌∙◌, ap, subst, sym}
use Rattle.std.proofs.lemmas.Str.{is_utf8-from_IsUtf8}
use Rattle.std.specs.Str.Lossy.{utf8_lossy}
use Rattle.bstr.proofs.lemmas.LossyLemmas.{lossy_chars-utf8_lossy}
use Rattle.hip_bytes.specs.Kinds.{HoldsByLength}
use Rattle.hip_text.proofs.hip_str.HipStr.from_utf8_lossy.Goals as goal

pub returns-in-Ok-from_vec-clause-repaired : goal.returns-in-Ok-from_vec-clause-repaired
returns-in-Ok-from_vec-clause-repaired g c _ =
    subst (HoldsByLength c.in-Ok-from_vec.bytes)
    (c.in-Ok.ensures.repaired ∙ ap utf8_lossy c.as_slice-2.ensures.items ∙ sym (lossy_chars-utf8_lossy c.args.bytes.items))
    c.in-Ok-from_vec.ensures.made

pub invariant_of-result-in-Ok-from_vec : goal.invariant_of-result-in-Ok-from_vec
invariant_of-result-in-Ok-from_vec g c = rw c.in-Ok-from_vec.ensures.made.items_are (is_utf8-from_IsUtf8 _ c.in-Ok.ensures.utf8)
