use Rattle.std.proofs.Common.{◌≡◌, true, slice_range, subst}
use Rattle.std.specs.Str.{is_utf8}
use Rattle.hip_bytes.specs.Handle.{Handle}
use Rattle.hip_bytes.specs.Made.{IsPart}
use Rattle.hip_text.proofs.Texts.{is_utf8-cut}
use Rattle.hip_text.proofs.hip_str.HipStr.part_metered.Goals as goal

pub invariant_of-result : goal.invariant_of-result
invariant_of-result g c =
    let part = c.in_ok-part_metered.field-0 in
    let utf8 = subst (λ (text : Handle). is_utf8 text.items ≡ true) c.self.view_is c.self.invariant in
    let cut = subst (λ (text : Handle). IsPart text part (slice_range text.items c.args.start c.args.end)) c.self.view_is c.in_ok-part_metered.ensures.part in
    is_utf8-cut c.args.self.now part c.args.start c.args.end utf8 c.requires.ordered c.requires.start_at_boundary c.requires.end_at_boundary cut
