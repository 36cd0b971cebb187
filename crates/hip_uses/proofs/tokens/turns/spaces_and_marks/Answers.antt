use Rattle.std.proofs.Common.{◌==◌, ◌&&◌, ◌||◌, Bool, ℕ, not, ap, ◌∙◌, refl}
use Rattle.std.specs.Char.{is_ascii, is_ascii_alphanumeric}
use Rattle.std.proofs.lemmas.Bool.{agree_below_at}
use Rattle.hip_uses.specs.Token.{is_word_or_digit}
use Rattle.hip_uses.proofs.tokens.turns.spaces_and_marks.Goals as goal

pub returns : goal.returns
returns c = λ byte fits.
    c.complement.ensures byte ∙ ap (λ b. is_ascii byte && not b) (c.with.ensures byte ∙ ap (λ (p : ℕ → Bool). byte == 95 || p byte) c.alphanumeric.ensures)
    ∙ agree_below_at (λ i. is_ascii i && not (i == 95 || is_ascii_alphanumeric i)) (λ i. not (is_word_or_digit i)) 256 byte refl fits
