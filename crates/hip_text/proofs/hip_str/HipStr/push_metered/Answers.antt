use Rattle.hip_text.proofs.Texts.{is_utf8-pushed}
use Rattle.hip_text.proofs.hip_str.HipStr.push_metered.Goals as goal

pub invariant_of-self : goal.invariant_of-self
invariant_of-self g c = is_utf8-pushed _ _ _ _ _ c.push_slice_metered.ensures.push c.self.invariant c.as_bytes-bytes.ensures.utf8

pub invariant_of-self-in-2 : goal.invariant_of-self-in-2
invariant_of-self-in-2 g c = is_utf8-pushed _ _ _ _ _ c.push_slice_metered-in-2.ensures.push c.self.invariant c.as_bytes-bytes.ensures.utf8

pub invariant_of-self-in-3 : goal.invariant_of-self-in-3
invariant_of-self-in-3 g c = is_utf8-pushed _ _ _ _ _ c.push_slice_metered-in-3.ensures.push c.self.invariant c.as_bytes-bytes.ensures.utf8

pub invariant_of-self-in_default : goal.invariant_of-self-in_default
invariant_of-self-in_default g c = is_utf8-pushed _ _ _ _ _ c.push_slice_metered-in_default.ensures.push c.self.invariant c.as_bytes-bytes.ensures.utf8
