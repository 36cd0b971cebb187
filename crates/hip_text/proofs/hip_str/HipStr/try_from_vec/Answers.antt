use Rattle.std.proofs.Common.{ap, refl, ◌∙◌}
use Rattle.std.proofs.lemmas.Str.{is_utf8-from_IsUtf8}
use Rattle.std.specs.Str.{is_utf8}
use Rattle.hip_text.proofs.Texts.{no_fault, a_fault}
use Rattle.hip_text.proofs.hip_str.HipStr.try_from_vec.Goals as goal

pub returns-then-is_some : goal.returns-then-is_some
returns-then-is_some g c = record { read = a_fault _ _ c.fault_of.ensures.some c.is_some.ensures c.if-is_some.true c.as_slice.ensures.value; handed_back = refl }

pub invariant_of-result : goal.invariant_of-result
invariant_of-result g c =
    ap is_utf8 c.in-Ok.ensures.made.items_are ∙ is_utf8-from_IsUtf8 _ (no_fault _ c.fault_of.ensures.none c.is_some.ensures c.if-is_some.false c.as_slice.ensures.value)

pub returns-in-Ok : goal.returns-in-Ok
returns-in-Ok g c = record {
  read = (no_fault _ c.fault_of.ensures.none c.is_some.ensures c.if-is_some.false c.as_slice.ensures.value, c.in-Ok.ensures.made);
  handed_back = tt;
}

pub returns-in-Err : goal.returns-in-Err
returns-in-Err g c = record {
  read = (no_fault _ c.fault_of.ensures.none c.is_some.ensures c.if-is_some.false c.as_slice.ensures.value, c.in-Err.ensures.made);
  handed_back = c.in-Err.ensures.handed_back;
}
