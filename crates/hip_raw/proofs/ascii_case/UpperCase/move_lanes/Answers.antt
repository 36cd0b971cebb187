use Rattle.std.proofs.Common.{refl, ◌∙◌}
use Rattle.std.proofs.lemmas.Simd.{zip2_splat, zip2_of_maps, splat_is_map}
use Rattle.std.specs.Char.{to_ascii_uppercase}
use Rattle.hip_raw.proofs.Lanes.{itself, selected, same_map}
use Rattle.hip_raw.proofs.ascii_case.UpperCase.move_lanes.Goals as goal

pub returns : goal.returns
returns c =
    let v = c.args.lanes in
    let long = c.fits-lanes.0 in
    zip2_of_maps _ _ _ v (itself v)
    (selected _ _ _ v (zip2_of_maps _ _ _ v (zip2_splat _ v 64 _ long) (splat_is_map v 64 _ long)) (splat_is_map v 64 _ long) (splat_is_map v 64 _ long))
    ∙ same_map _ to_ascii_uppercase v c.fits-lanes.1 refl
