use Rattle.std.proofs.Common.{◌≡◌, ◌∙◌, ◌&&◌, ℕ, Bool, not, ap}
use Rattle.std.specs.Char.{is_ascii}
use Rattle.hipstr.specs.AsciiSets.{in_set}
use Rattle.hip_uses.specs.Words.{is_gap}
use Rattle.hip_uses.proofs.intern.Interner.intern_words_metered.Goals as goal

pub returns : goal.returns
returns g c =
    let same : in_set c.complement-gaps.result ≡ is_gap = λ i d. (c.complement-gaps.ensures d ∙ ap (λ (p : ℕ → Bool). is_ascii d && not (p d)) c.alphanumeric.ensures) i in
    rw (← same) c.intern_parts_metered.ensures
