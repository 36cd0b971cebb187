use Rattle.std.proofs.Common.{◌∙◌, [], ap}
use Rattle.hipstr.specs.Join.{joined}
use Rattle.hip_uses.proofs.Templates.{pieces-joined}
use Rattle.hip_uses.proofs.template.filling.fill_metered.Goals as goal

pub returns-clause-filled : goal.returns-clause-filled
returns-clause-filled g c =
    let template = c.args.template.now in
    c.in_ok-concat_slices_metered.ensures.joined.0.items_are ∙ ap (joined []) c.as_slice.ensures.value
    ∙ pieces-joined c.args.values.now template.holes.items c.in_ok-pieces.pieces.items c.push.new.self.items c.as_str.result template.rest.items c.in_ok-pieces.ensures.pieces c.in_ok-push.ensures.items c.as_str.ensures.items
