use Rattle.hip_names.proofs.Dots.{extension-some}
use Rattle.hip_names.proofs.parts.extension_range.Goals as goal

pub returns : goal.returns
returns c =
    let name = c.in_ok-start.ensures in
    let dot = c.in_ok-at.ensures in
    extension-some _ _ _ _ name.0 name.1 name.2 dot.0 dot.1 dot.2 dot.3
