use Rattle.std.proofs.Common.{◌∙◌, subst, sym, ap}
use Rattle.std.specs.Prelude.{IsUtf8}
use Rattle.std.proofs.lemmas.Str.{IsUtf8-string_bytes}
use Rattle.hip_text.proofs.Texts.{is_utf8-taken}
use Rattle.hip_text.proofs.hip_str.HipStr.from_string_metered.Goals as goal

pub invariant_of-result : goal.invariant_of-result
invariant_of-result g c = is_utf8-taken c.args.string c.into_bytes.result c.in-Ok.bytes c.into_bytes.ensures.value c.in-Ok.ensures.made.items_are

pub from_utf8_unchecked-requires : goal.from_utf8_unchecked-requires
from_utf8_unchecked-requires g c = subst IsUtf8 (sym (ap (λ vec. vec.items) (c.in-Err.ensures.handed_back ∙ c.into_bytes.ensures.value))) (IsUtf8-string_bytes c.args.string)
