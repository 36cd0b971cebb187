use Rattle.std.proofs.Common.{refl, ◌∙◌}
use Rattle.hip_match.specs.Clones.{gaps_kept}
use Rattle.hip_match_tests.proofs.tests.by_closures.clone_of.Goals as goal

pub gives-requires : goal.gives-requires
gives-requires g c =
    let clone = c.in_ok-clone.ensures.cases in
    let kept = gaps_kept (clone.0 (λ p q same. record { searchable = λ h. rw (same.0, same.1) h; occurs = rw same.1 refl })) clone.1.0 clone.1.1.0 clone.1.1.1 in
    record {
      ready = kept.ready c.new-pieces.ensures.ranges.ready;
      text = kept.text ∙ c.new-pieces.ensures.ranges.text;
    }
