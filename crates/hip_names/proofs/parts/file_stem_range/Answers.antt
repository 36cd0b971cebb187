use Rattle.hip_names.proofs.Dots.{stem-some}
use Rattle.hip_names.proofs.parts.file_stem_range.Goals as goal

pub returns-in-Some : goal.returns-in-Some
returns-in-Some c =
    let name = c.in_ok-start.ensures in
    let dot = c.in-Some.ensures in
    stem-some _ _ _ _ name.0 name.1 name.2 dot.0 dot.1 dot.2
