use Rattle.std.proofs.Common.{◌==◌, ◌&&◌, ◌||◌, Bool, ℕ, not, ap, ◌∙◌, refl}
use Rattle.std.specs.Char.{is_ascii, is_ascii_alphabetic, is_ascii_whitespace}
use Rattle.std.proofs.lemmas.Bool.{agree_below_at}
use Rattle.hip_uses.specs.Token.{is_word_or_space}
use Rattle.hipstr.specs.AsciiSets.{in_set}
use Rattle.hip_uses.proofs.tokens.turns.digits_and_marks.Goals as goal

pub returns : goal.returns
returns c = λ byte fits.
    c.complement.ensures byte
    ∙ ap (λ b. is_ascii byte && not b) (c.union.ensures byte
    ∙ ap (λ b. b || in_set c.whitespace.result byte) (c.with.ensures byte ∙ ap (λ (p : ℕ → Bool). byte == 95 || p byte) c.alphabetic.ensures)
    ∙ ap (λ (p : ℕ → Bool). (byte == 95 || is_ascii_alphabetic byte) || p byte) c.whitespace.ensures)
    ∙ agree_below_at (λ i. is_ascii i && not ((i == 95 || is_ascii_alphabetic i) || is_ascii_whitespace i)) (λ i. not (is_word_or_space i)) 256 byte refl fits
