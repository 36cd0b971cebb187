use Rattle.std.proofs.Common.{refl}
use Rattle.hip_match.specs.Clones.{gaps_kept}
use Rattle.hip_text_tests.proofs.tests.clones.by_a_closure.Goals as goal

pub places_of-requires : goal.places_of-requires
places_of-requires g c =
    let alike = c.in_ok-copy.ensures.cases (λ ranges copy is. gaps_kept
    (is.0 (λ p q made. record { searchable = λ h. rw (made.0, made.1) h; occurs = rw made.1 refl })) is.1.0 is.1.1.0 is.1.1.1) in
    alike.ready c.pieces_at-pieces.ensures.ready
