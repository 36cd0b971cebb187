-- A character occurs where its UTF-8 does.
use Rattle.std.proofs.Common.{◌≡◌, ℕ, List, ◌++◌, length, drop, sym, ◌∙◌, arith, take-append-drop, refl, ◌==◌, eqb-true, eq-eqb, encode_utf8, IsUtf8}
use Rattle.std.proofs.lemmas.Bool.{cond-true, and_from}
use Rattle.std.proofs.Math.Seq.{take-append_seam}
use Rattle.std.proofs.lemmas.Option.{none-some}
use Rattle.std.proofs.lemmas.Str.{IsUtf8-drop, length-encode}
use Rattle.std.specs.Char.{IsScalar}
use lib.Utf8.{scalar}
use Rattle.hip_match.specs.Characters.{char_ends}
use Rattle.hip_match.specs.Texts.{text_ends}
use Rattle.hip_match.specs.CharLaws.{char_at-split, char_ends-is}
use Rattle.hip_match.specs.TextLaws.{text_ends-some, text_ends-is}
use Rattle.hip_match.proofs.OccurrenceLemmas.{option_cases}

module _ (c : ℕ) (t : List ℕ) (good : IsScalar c) (utf8 : IsUtf8 t) where
  same_at : (k : ℕ) → text_ends (encode_utf8 c) t k ≡ char_ends (λ d. d == c) t k
  same_at k =
      option_cases (text_ends (encode_utf8 c) t k)
      (λ none. option_cases (char_ends (λ d. d == c) t k) (λ empty. none ∙ sym empty) (λ b is. grind (arith, char_ends-is (λ d. d == c) t k b utf8 is, eqb-true, take-append_seam, length-encode, none-some, text_ends-some)))
      (λ b is.
      let parts = text_ends-is (encode_utf8 c) t k b is in
      let rest = drop (length (encode_utf8 c)) (drop k t) in
      let split : drop k t ≡ encode_utf8 c ++ rest = grind (arith, take-append-drop) in
      grind (arith, char_at-split t rest k c (IsUtf8-drop t k utf8 parts.0) parts.0 split, IsUtf8-drop t k utf8 parts.0, length-encode c, cond-true, and_from (scalar c) (c == c) good (eq-eqb c c refl), eq-eqb c c refl))

  pub same_ends : text_ends (encode_utf8 c) t ≡ char_ends (λ d. d == c) t
  same_ends = λ i k. same_at k i
