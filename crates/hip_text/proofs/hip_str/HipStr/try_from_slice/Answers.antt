use Rattle.std.proofs.Common.{rules, ◌∙◌, ap}
use Rattle.std.proofs.lemmas.Str.{is_utf8-from_IsUtf8}
use Rattle.std.specs.Str.{is_utf8}
use Rattle.hip_text.proofs.hip_str.HipStr.try_from_slice.Goals as goal

pub invariant_of-result : goal.invariant_of-result
invariant_of-result g c = ap is_utf8 c.in_ok-from_slice.ensures.made.items_are ∙ is_utf8-from_IsUtf8 _ (c.is_utf8.ensures.0 (search rules))
