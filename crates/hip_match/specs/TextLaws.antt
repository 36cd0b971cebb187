-- Laws of the places where a text occurs.
use Rattle.std.specs.Prelude.{◌≡◌, ℕ, ◌+◌, ◌<◌, ◌≤◌, ◌&&◌, Some, List, [], ◌∷◌, ◌++◌, length, take, drop, slice_index}
use Rattle.std.proofs.Common.{sym, ◌∙◌, ap, subst, arith, length-append, get_or-drop, get_or-take, add-zero, length-take-le, take-append-drop, append_assoc, drop-drop}
use Rattle.std.proofs.lemmas.Bool.{cond-true, and_parts, and_from}
use Rattle.std.proofs.lemmas.Option.{cond_some}
use Rattle.std.proofs.lemmas.Slice.Eq.{bytes_eq-Decides}
use Rattle.std.proofs.lemmas.Str.{IsUtf8-drop, IsUtf8-past_char, IsCharBoundary-start, IsCharBoundary-at_seam}
use Rattle.std.specs.Char.{encode_utf8}
use Rattle.std.specs.Str.{IsUtf8, IsCharBoundary, encode_utf8_all}
use Rattle.hip_match.specs.Occurrence.{IsCut, is_boundary}
use Rattle.hip_match.specs.CharLaws.{is_boundary-true, is_boundary-is}
use Rattle.hip_match.specs.Texts.{text_ends, stands_at}

-- the bytes of the text from i on are the pattern's
abbrev pub Stands : List ℕ → List ℕ → ℕ → Type 0
Stands p t i = take (length p) (drop i t) ≡ p

pub text_ends-some : (p t : List ℕ) (i : ℕ) → IsCharBoundary t i → IsCharBoundary t (i + length p) → Stands p t i → text_ends p t i ≡ Some (i + length p)
unfolding text_ends
text_ends-some p t i start end stands =
    cond-true _ _ _ (and_from (is_boundary t i) _ (is_boundary-true t i start) (and_from (is_boundary t (i + length p)) _ (is_boundary-true t (i + length p) end) ((bytes_eq-Decides _ p).1 stands)))

pub text_ends-is : (p t : List ℕ) (i b : ℕ) → text_ends p t i ≡ Some b → IsCharBoundary t i × IsCharBoundary t (i + length p) × Stands p t i × (b ≡ i + length p)
unfolding text_ends
text_ends-is p t i b is =
    let both = cond_some (is_boundary t i && (is_boundary t (i + length p) && stands_at p t i)) (i + length p) b is in
    let first = and_parts (is_boundary t i) _ both.0 in
    let second = and_parts (is_boundary t (i + length p)) _ first.1 in
    (is_boundary-is t i first.0, is_boundary-is t (i + length p) second.0, (bytes_eq-Decides _ p).0 second.1, sym both.1)

pub text_ends-spans : (p t : List ℕ) (a b : ℕ) → IsUtf8 t → text_ends p t a ≡ Some b → IsCut t (a, b)
text_ends-spans p t a b utf8 is =
    let parts = text_ends-is p t a b is in
    let P : ℕ → Type 0 = IsCharBoundary t in
    record { start = parts.0; end = subst P (sym parts.3) parts.1; ordered = omega (arith, parts.3) }

pub text_ends-one_start : (p t : List ℕ) (a b c : ℕ) → IsUtf8 t → text_ends p t a ≡ Some c → text_ends p t b ≡ Some c → a ≡ b
text_ends-one_start p t a b c utf8 first second = omega (arith, (text_ends-is p t a c first).3, (text_ends-is p t b c second).3)

-- ---- the bytes of a text that is not empty stand at boundaries alone

after_chars : (cs rest : List ℕ) → IsUtf8 (encode_utf8_all cs ++ rest) → IsUtf8 rest
after_chars [] rest utf8 = utf8
after_chars (c ∷ cs) rest utf8 =
    after_chars cs rest (IsUtf8-past_char _ (encode_utf8_all cs ++ rest) c utf8 (append_assoc (encode_utf8 c) (encode_utf8_all cs) rest))

after_text : (p rest : List ℕ) → IsUtf8 p → IsUtf8 (p ++ rest) → IsUtf8 rest
after_text p rest own utf8 =
    let P : List ℕ → Type 0 = λ l. IsUtf8 (l ++ rest) in
    after_chars own.0 rest (subst P (sym own.1.1) utf8)

pub Stands-boundaries : (p t : List ℕ) (i : ℕ) → IsUtf8 p → IsUtf8 t → 0 < length p → i + length p ≤ length t → Stands p t i
    → IsCharBoundary t i × IsCharBoundary t (i + length p)
Stands-boundaries p t i own utf8 some fits stands =
    let first : slice_index t i ≡ slice_index p 0 =
    ap (λ k. slice_index t k) (sym (add-zero i)) ∙ sym (get_or-drop i t 0 0) ∙ sym (get_or-take (length p) (drop i t) 0 0 some) ∙ ap (λ l. slice_index l 0) stands in
    let head = IsCharBoundary-start p own in
    let start : IsCharBoundary t i = (omega arith, λ lt high. omega (arith, first, head.1 some (omega (arith, first)))) in
    let rest = drop (i + length p) t in
    let split : drop i t ≡ p ++ rest =
    sym (take-append-drop (length p) (drop i t)) ∙ ap (λ l. l ++ drop (length p) (drop i t)) stands ∙ ap (λ l. p ++ l) (drop-drop (length p) i t) in
    let after : IsUtf8 rest = let P : List ℕ → Type 0 = IsUtf8 in after_text p rest own (subst P split (IsUtf8-drop t i utf8 start)) in
    let whole : t ≡ (take i t ++ p) ++ rest = sym (take-append-drop i t) ∙ ap (λ l. take i t ++ l) split ∙ sym (append_assoc (take i t) p rest) in
    let size : length (take i t ++ p) ≡ i + length p = length-append (take i t) p ∙ ap (λ n. n + length p) (length-take-le i t (omega arith)) in
    let Q : ℕ → Type 0 = IsCharBoundary t in
    (start, subst Q size (IsCharBoundary-at_seam t (take i t ++ p) rest whole after))
