use Rattle.std.proofs.Common.{◌∙◌, subst, sym, ap}
use Rattle.std.specs.Prelude.{IsUtf8}
use Rattle.std.proofs.lemmas.Str.{IsUtf8-string_bytes}
use Rattle.hip_text.proofs.Texts.{is_utf8-put, same_string}
use Rattle.hip_text.proofs.hip_str.mutate.HipStrTextSource.put_back_metered.Goals as goal

pub from_utf8_unchecked-requires : goal.from_utf8_unchecked-requires
from_utf8_unchecked-requires g c = subst IsUtf8 (sym (ap (λ vec. vec.items) (c.in-Err.ensures.handed_back ∙ c.into_bytes.ensures.value))) (IsUtf8-string_bytes c.args.string)

pub invariant_of-self : goal.invariant_of-self
invariant_of-self g c =
    is_utf8-put c.self.inside.bytes c.put_back_metered.new.self c.into_bytes.result.items c.put_back_metered.result c.put_back_metered.ensures.put c.put_back_metered.ensures.err
    c.self.invariant (subst IsUtf8 (sym (ap (λ vec. vec.items) c.into_bytes.ensures.value)) (IsUtf8-string_bytes c.args.string))

pub returns-clause-handed_back : goal.returns-clause-handed_back
returns-clause-handed_back g c =
    same_string c.from_utf8_unchecked.result c.args.string (c.from_utf8_unchecked.ensures.value ∙ c.in-Err.ensures.handed_back ∙ c.into_bytes.ensures.value)
