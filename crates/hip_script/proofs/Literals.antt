-- A literal is printed stretch by stretch of bytes that stand for themselves.
use Rattle.std.proofs.Common.{◌≡◌, ℕ, ◌+◌, ◌<◌, suc, zero, Bool, true, false, ◌==◌, ◌||◌, not, List, [], ◌∷◌, ◌++◌, length, take, drop, get_or, Option, Some, None, Result, Ok, Err, subst, arith, refl, sym, ap, ◌∙◌, add-one, append_assoc}
use Rattle.std.proofs.lemmas.{Bool.false_from_ne_true, List.append-nil}
use Rattle.std.specs.Bool.{if◌then◌else◌}
use Rattle.std.specs.{Io.KnownBytes.Appends, List.flat_map}
use Rattle.memchr.specs.Find.{IsFirstByte}
use Rattle.hip_script.proofs.Appended.{appends-then}
use Rattle.hip_script.proofs.Printing.{front-of, front-then}
use Rattle.hip_script.specs.Printed.{is_printable, printed_byte, printed_literal}
use Rattle.hip_script.specs.Prints.{AppendsFront, Prints}
use Rattle.hip_script.specs.Said.{needs_escape}

plain : (q s p : Bool) (a b c d : List ℕ) → (q || (s || not p)) ≡ false → (if q then a else if s then b else if p then c else d) ≡ c
plain true s p a b c d is = absurd cc
plain false true p a b c d is = absurd cc
plain false false true a b c d is = refl
plain false false false a b c d is = absurd cc

pub prints-itself : (b : ℕ) → needs_escape b ≡ false → printed_byte b ≡ b ∷ []
prints-itself b is = plain (b == 34) (b == 92) (is_printable b) _ _ _ _ is

stretch : (at : ℕ) (text : List ℕ) → at < length text → ((j : ℕ) → j < at → needs_escape (get_or text j 0) ≡ false)
    → flat_map printed_byte text ≡ take at text ++ (printed_byte (get_or text at 0) ++ flat_map printed_byte (drop (suc at) text))
stretch at [] inside plain = absurd (omega arith)
stretch zero (b ∷ bs) inside plain = refl
stretch (suc at) (b ∷ bs) inside plain =
    rw (prints-itself b (plain zero (omega arith))) (ap (λ t. b ∷ t) (stretch at bs (omega arith) (λ j below. plain (suc j) (omega arith))))

all-plain : (text : List ℕ) → ((j : ℕ) → j < length text → needs_escape (get_or text j 0) ≡ false) → flat_map printed_byte text ≡ text
all-plain [] plain = refl
all-plain (b ∷ bs) plain =
    rw (prints-itself b (plain zero (omega arith))) (ap (λ t. b ∷ t) (all-plain bs (λ j below. plain (suc j) (omega arith))))

-- the quote before a literal was printed and some of its bytes, and these are left
pub record PrintsSoFar (old new : Option (List ℕ)) (rest bytes : List ℕ) : Type 0 where
  pub done : List ℕ
  pub written : Appends old new (34 ∷ done)
  pub whole : done ++ flat_map printed_byte rest ≡ flat_map printed_byte bytes

pub prints-on : (old a b c : Option (List ℕ)) (rest bytes : List ℕ) (at : ℕ) → IsFirstByte needs_escape rest (Some at) → PrintsSoFar old a rest bytes
    → Appends a b (take at rest) → Appends b c (printed_byte (get_or rest at 0)) → PrintsSoFar old c (drop (at + 1) rest) bytes
prints-on old a b c rest bytes at found so_far first second =
    let byte = printed_byte (get_or rest at 0) in
    let later = flat_map printed_byte (drop (suc at) rest) in
    rw (add-one at) (record {
      done = (so_far.done ++ take at rest) ++ byte;
      written = appends-then old b c (34 ∷ (so_far.done ++ take at rest)) byte (appends-then old a b (34 ∷ so_far.done) (take at rest) so_far.written first) second;
      whole =
          append_assoc (so_far.done ++ take at rest) byte later
          ∙ append_assoc so_far.done (take at rest) (byte ++ later)
          ∙ ap (λ t. so_far.done ++ t) (sym (stretch at rest found.0.high (λ j below. false_from_ne_true _ (found.0.before j (omega arith) below))))
          ∙ so_far.whole;
    })

pub prints-end : (old a b c : Option (List ℕ)) (rest bytes : List ℕ) → IsFirstByte needs_escape rest None → PrintsSoFar old a rest bytes
    → Appends a b rest → Appends b c (34 ∷ []) → Appends old c (printed_literal bytes)
prints-end old a b c rest bytes found so_far first second =
    let whole : so_far.done ++ rest ≡ flat_map printed_byte bytes =
    ap (λ t. so_far.done ++ t) (sym (all-plain rest (λ j below. false_from_ne_true _ (found j (omega arith) below)))) ∙ so_far.whole in
    rw (sym whole) (appends-then old b c (34 ∷ (so_far.done ++ rest)) (34 ∷ []) (appends-then old a b (34 ∷ so_far.done) rest so_far.written first) second)

-- a literal that was cut short, behind what was printed so far: `tail` is what follows the text that was cut
pub literal-cut : (old a b : Option (List ℕ)) (rest bytes text tail : List ℕ) → PrintsSoFar old a rest bytes → text ++ tail ≡ flat_map printed_byte rest ++ (34 ∷ []) → AppendsFront a b text
    → AppendsFront old b (printed_literal bytes)
literal-cut old a b rest bytes text tail so_far all cut =
    let done = so_far.done in
    let whole : ((34 ∷ done) ++ text) ++ tail ≡ printed_literal bytes =
    append_assoc (34 ∷ done) text tail ∙ ap (λ t. (34 ∷ done) ++ t) all ∙ sym (append_assoc (34 ∷ done) (flat_map printed_byte rest) (34 ∷ [])) ∙ ap (λ t. 34 ∷ t ++ (34 ∷ [])) so_far.whole in
    subst (AppendsFront old b) whole (front-of old b ((34 ∷ done) ++ text) tail (front-then old a b (34 ∷ done) text so_far.written cut))

-- within a stretch that stands for itself, and at the byte behind it
pub cut-stretch : (old a b : Option (List ℕ)) (rest bytes : List ℕ) (at : ℕ) → IsFirstByte needs_escape rest (Some at) → PrintsSoFar old a rest bytes → AppendsFront a b (take at rest)
    → AppendsFront old b (printed_literal bytes)
cut-stretch old a b rest bytes at found so_far cut =
    let behind = printed_byte (get_or rest at 0) ++ flat_map printed_byte (drop (suc at) rest) in
    literal-cut old a b rest bytes (take at rest) (behind ++ (34 ∷ [])) so_far
    (sym (append_assoc (take at rest) behind (34 ∷ [])) ∙ ap (λ t. t ++ (34 ∷ [])) (sym (stretch at rest found.0.high (λ j below. false_from_ne_true _ (found.0.before j (omega arith) below))))) cut

pub cut-escaped : (old a b c : Option (List ℕ)) (rest bytes : List ℕ) (at : ℕ) → IsFirstByte needs_escape rest (Some at) → PrintsSoFar old a rest bytes → Appends a b (take at rest)
    → AppendsFront b c (printed_byte (get_or rest at 0)) → AppendsFront old c (printed_literal bytes)
cut-escaped old a b c rest bytes at found so_far first cut =
    let byte = printed_byte (get_or rest at 0) in
    let later = flat_map printed_byte (drop (suc at) rest) in
    literal-cut old a c rest bytes (take at rest ++ byte) (later ++ (34 ∷ [])) so_far
    (sym (append_assoc (take at rest ++ byte) later (34 ∷ [])) ∙ ap (λ t. t ++ (34 ∷ [])) (append_assoc (take at rest) byte later
    ∙ sym (stretch at rest found.0.high (λ j below. false_from_ne_true _ (found.0.before j (omega arith) below)))))
    (front-then a b c (take at rest) byte first cut)

-- in the last stretch, and at the quote behind it
pub cut-last-stretch : (old a b : Option (List ℕ)) (rest bytes : List ℕ) → IsFirstByte needs_escape rest None → PrintsSoFar old a rest bytes → AppendsFront a b rest → AppendsFront old b (printed_literal bytes)
cut-last-stretch old a b rest bytes found so_far cut =
    literal-cut old a b rest bytes rest (34 ∷ []) so_far (ap (λ t. t ++ (34 ∷ [])) (sym (all-plain rest (λ j below. false_from_ne_true _ (found j (omega arith) below))))) cut

pub ends-literal : {E : Type 0} (old a b c : Option (List ℕ)) (rest bytes : List ℕ) (result : Result (Unit {0}) E) → IsFirstByte needs_escape rest None → PrintsSoFar old a rest bytes → Appends a b rest
    → Prints b c (34 ∷ []) result → Prints old c (printed_literal bytes) result
ends-literal old a b c rest bytes (Ok done) found so_far first last = prints-end old a b c rest bytes found so_far first last
ends-literal old a b c rest bytes (Err error) found so_far first cut =
    literal-cut old a c rest bytes (rest ++ (34 ∷ [])) [] so_far
    (append-nil (rest ++ (34 ∷ [])) ∙ ap (λ t. t ++ (34 ∷ [])) (sym (all-plain rest (λ j below. false_from_ne_true _ (found j (omega arith) below)))))
    (front-then a b c rest (34 ∷ []) first cut)
