use Rattle.std.proofs.Common.{◌≡◌, fold, length}
use Rattle.hip_names.specs.Fed.{all_fed, path_fed}
use Rattle.hip_names.specs.Shown.{to_come}
use Rattle.hip_names.proofs.fed.feed_path.Given as goal

abbrev pub invariant-loop-component : goal.invariant-loop-component
invariant-loop-component g l = fold g.H.Hasher.write l.state (all_fed (to_come l.components)) ≡ fold g.H.Hasher.write l.initial.state (path_fed l.path)

abbrev pub decreases-loop-component : goal.decreases-loop-component
decreases-loop-component g l = length (to_come l.components)
