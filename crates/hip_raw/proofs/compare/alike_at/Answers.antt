use Rattle.std.proofs.Common.{◌∙◌, refl, sym}
use Rattle.std.proofs.Math.Bool.{not-not}
use Rattle.hip_raw.proofs.Alike.{alike_at}
use Rattle.hip_raw.proofs.compare.alike_at.Goals as goal

pub returns : goal.returns
returns g c =
    let is = alike_at c.args.a.now c.args.b.now c.args.i g.row.N c.requires.within.0 c.requires.within.1 _ c.requires.lanes.1 refl in
    (λ none. is.0 (sym (not-not _) ∙ none), λ alike. not-not _ ∙ is.1 alike)
