-- Literals, a byte or an escape at a time.
use Rattle.std.proofs.Common.{◌≡◌, ℕ, ◌+◌, ◌*◌, ◌<◌, add-one, true, ◌==◌, ◌||◌, List, [], ◌∷◌, ◌++◌, suc, zero, take, drop, get_or, length, Option, Some, None, arith, refl, sym, ap, ◌∙◌, append_assoc}
use Rattle.memchr.specs.Find.{IsFirstByte, is_byte2}
use Rattle.std.proofs.{lemmas.List.append-nil, lemmas.Option.none-some, lemmas.Option.some_pair_parts}
use Rattle.std.specs.{Char.is_ascii_hexdigit, Char.digit_value, Option.option_map}
use Rattle.std.proofs.lemmas.Bool.{eq-eqb, ne_eqb, false_from_ne_true, or_left, or_right}
use Rattle.hip_script.specs.Words.{decoded, before, Place}
use Rattle.hip_script.specs.Words.Place.{Plain, Escape, High, Low}

-- these bytes before those that were found
abbrev pub behind : List ℕ → Option (List ℕ × List ℕ) → Option (List ℕ × List ℕ)
behind bytes found = option_map (λ f. (bytes ++ f.0, f.1)) found

pub behind-before : (bytes : List ℕ) (b : ℕ) (found : Option (List ℕ × List ℕ)) → behind (bytes ++ b ∷ []) found ≡ behind bytes (before b found)
behind-before bytes b None = refl
behind-before bytes b (Some f) = ap (λ t. Some (t, f.1)) (append_assoc bytes (b ∷ []) f.0)

pub decoded-none : (place : Place) (text : List ℕ) → length text ≡ 0 → decoded place text ≡ None
unfolding decoded
decoded-none Plain [] none = refl
decoded-none place [] none = refl
decoded-none place (b ∷ bs) none = absurd (omega arith)

pub plain-end : (b : ℕ) (rest : List ℕ) → b ≡ 34 → decoded Plain (b ∷ rest) ≡ Some ([], rest)
unfolding decoded
plain-end b rest is = rw is refl

pub plain-escape : (b : ℕ) (rest : List ℕ) → b ≡ 92 → decoded Plain (b ∷ rest) ≡ decoded Escape rest
unfolding decoded
plain-escape b rest is = rw is refl

pub plain-byte : (b : ℕ) (rest : List ℕ) → (b ≡ 34 → ⊥) → (b ≡ 92 → ⊥) → decoded Plain (b ∷ rest) ≡ before b (decoded Plain rest)
unfolding decoded
plain-byte b rest no_end no_escape = rw (ne_eqb b 34 no_end, ne_eqb b 92 no_escape) refl

pub escape-sign : (b : ℕ) (text rest : List ℕ) → text ≡ b ∷ rest → (b == 34 || b == 92) ≡ true → decoded Escape text ≡ before b (decoded Plain rest)
unfolding decoded
escape-sign b text rest is sign = rw (is, sign) refl

pub escape-hex : (b : ℕ) (text rest : List ℕ) → text ≡ b ∷ rest → b ≡ 120 → decoded Escape text ≡ decoded High rest
unfolding decoded
escape-hex b text rest is x = rw (is, x) refl

pub escape-other : (b : ℕ) (text rest : List ℕ) → text ≡ b ∷ rest → (b ≡ 34 → ⊥) → (b ≡ 92 → ⊥) → (b ≡ 120 → ⊥) → decoded Escape text ≡ None
unfolding decoded
escape-other b text rest is quote slash x = rw (is, ne_eqb b 34 quote, ne_eqb b 92 slash, ne_eqb b 120 x) refl

high-digit : (d : ℕ) (text rest : List ℕ) → text ≡ d ∷ rest → is_ascii_hexdigit d ≡ true → decoded High text ≡ decoded (Low (digit_value d)) rest
unfolding decoded
high-digit d text rest is hex = rw (is, hex) refl

pub high-other : (d : ℕ) (text rest : List ℕ) → text ≡ d ∷ rest → (is_ascii_hexdigit d ≡ true → ⊥) → decoded High text ≡ None
unfolding decoded
high-other d text rest is other = rw (is, false_from_ne_true _ other) refl

low-other : (high d : ℕ) (text rest : List ℕ) → text ≡ d ∷ rest → (is_ascii_hexdigit d ≡ true → ⊥) → decoded (Low high) text ≡ None
unfolding decoded
low-other high d text rest is other = rw (is, false_from_ne_true _ other) refl

low-digit : (high d : ℕ) (text rest : List ℕ) → text ≡ d ∷ rest → is_ascii_hexdigit d ≡ true → decoded (Low high) text ≡ before (high * 16 + digit_value d) (decoded Plain rest)
unfolding decoded
low-digit high d text rest is hex = rw (is, hex) refl

pub hex-short : (h : ℕ) (text rest : List ℕ) → text ≡ h ∷ rest → is_ascii_hexdigit h ≡ true → length rest ≡ 0 → decoded High text ≡ None
hex-short h text rest is hex none = high-digit h text rest is hex ∙ decoded-none (Low _) rest none

pub hex-other : (h l : ℕ) (text rest after : List ℕ) → text ≡ h ∷ rest → is_ascii_hexdigit h ≡ true → rest ≡ l ∷ after → (is_ascii_hexdigit l ≡ true → ⊥) → decoded High text ≡ None
hex-other h l text rest after is hex then other = high-digit h text rest is hex ∙ low-other _ l rest after then other

pub hex-both : (h l high low : ℕ) (text rest after : List ℕ) → text ≡ h ∷ rest → is_ascii_hexdigit h ≡ true → rest ≡ l ∷ after → is_ascii_hexdigit l ≡ true
    → high ≡ digit_value h → low ≡ digit_value l → decoded High text ≡ before (high * 16 + low) (decoded Plain after)
hex-both h l high low text rest after is hex then digit high_is low_is = rw (high_is, low_is) (high-digit h text rest is hex ∙ low-digit _ l rest after then digit)

pub escape-quote : (b : ℕ) (text rest : List ℕ) → text ≡ b ∷ rest → b ≡ 34 → decoded Escape text ≡ before b (decoded Plain rest)
escape-quote b text rest is quote = escape-sign b text rest is (or_left (b == 34) (b == 92) (eq-eqb b 34 quote))

pub escape-slash : (b : ℕ) (text rest : List ℕ) → text ≡ b ∷ rest → b ≡ 92 → decoded Escape text ≡ before b (decoded Plain rest)
escape-slash b text rest is slash = escape-sign b text rest is (or_right (b == 34) (b == 92) (eq-eqb b 92 slash))

-- the loop over a literal: what was decoded stands in the buffer, behind what stood there
ends-with : (old new after : List ℕ) (found : Option (List ℕ × List ℕ)) → Some (new ++ [], after) ≡ behind old found
    → (bytes : List ℕ) × (found ≡ Some (bytes, after)) × (new ≡ old ++ bytes)
ends-with old new after None is = absurd (none-some (new ++ [], after) (sym is))
ends-with old new after (Some f) is =
    let parts = some_pair_parts (new ++ []) (old ++ f.0) after f.1 is in (
      f.0,
      ap (λ t. Some (f.0, t)) (sym parts.1),
      sym (append-nil new) ∙ parts.0,
    )

pub literal-ends : (old new text rest after : List ℕ) (b : ℕ) → behind new (decoded Plain rest) ≡ behind old (decoded Plain text) → rest ≡ b ∷ after → b ≡ 34
    → (bytes : List ℕ) × (decoded Plain text ≡ Some (bytes, after)) × (new ≡ old ++ bytes)
literal-ends old new text rest after b so_far is quote =
    ends-with old new after (decoded Plain text) (sym (ap (behind new) (ap (decoded Plain) is ∙ plain-end b after quote)) ∙ so_far)

fails-with : (old : List ℕ) (found : Option (List ℕ × List ℕ)) → None ≡ behind old found → found ≡ None
fails-with old None is = refl
fails-with old (Some f) is = absurd (none-some _ is)

pub literal-fails : (old new text rest : List ℕ) → behind new (decoded Plain rest) ≡ behind old (decoded Plain text) → decoded Plain rest ≡ None
    → decoded Plain text ≡ None
literal-fails old new text rest so_far none = fails-with old (decoded Plain text) (sym (ap (behind new) none) ∙ so_far)

pub literal-goes_on : (new more rest after : List ℕ) (b : ℕ) (whole : Option (List ℕ × List ℕ)) → behind new (decoded Plain rest) ≡ whole
    → decoded Plain rest ≡ before b (decoded Plain after) → more ≡ new ++ b ∷ [] → behind more (decoded Plain after) ≡ whole
literal-goes_on new more rest after b whole so_far step added =
    rw added (behind-before new b (decoded Plain after) ∙ sym (ap (behind new) step) ∙ so_far)

pub literal-byte : (new more rest after : List ℕ) (b : ℕ) (whole : Option (List ℕ × List ℕ)) → behind new (decoded Plain rest) ≡ whole
    → rest ≡ b ∷ after → (b ≡ 34 → ⊥) → (b ≡ 92 → ⊥) → more ≡ new ++ b ∷ [] → behind more (decoded Plain after) ≡ whole
literal-byte new more rest after b whole so_far is no_end no_escape added =
    literal-goes_on new more rest after b whole so_far (ap (decoded Plain) is ∙ plain-byte b after no_end no_escape) added

pub no_sign-fails : (text : List ℕ) → ((j : ℕ) → j < length text → (get_or text j 0 ≡ 34 → ⊥) × (get_or text j 0 ≡ 92 → ⊥)) → decoded Plain text ≡ None
no_sign-fails [] plain = decoded-none Plain [] refl
no_sign-fails (b ∷ bs) plain =
    let here = plain zero (omega arith) in
    plain-byte b bs here.0 here.1 ∙ ap (before b) (no_sign-fails bs (λ j below. plain (suc j) (omega arith)))

no_sign : (text : List ℕ) (j : ℕ) → (is_byte2 34 92 (get_or text j 0) ≡ true → ⊥) → (get_or text j 0 ≡ 34 → ⊥) × (get_or text j 0 ≡ 92 → ⊥)
no_sign text j not_sign = (
  λ is. not_sign (or_left (get_or text j 0 == 34) (get_or text j 0 == 92) (eq-eqb _ _ is)),
  λ is. not_sign (or_right (get_or text j 0 == 34) (get_or text j 0 == 92) (eq-eqb _ _ is)),
)

pub no_sign-none : (text : List ℕ) → IsFirstByte (is_byte2 34 92) text None → decoded Plain text ≡ None
no_sign-none text found = no_sign-fails text (λ j below. no_sign text j (found j (omega arith) below))

-- a literal with no escape is what stands before the `"` that ends it
plain-to_quote : (at : ℕ) (text : List ℕ) → at < length text → ((j : ℕ) → j < at → (get_or text j 0 ≡ 34 → ⊥) × (get_or text j 0 ≡ 92 → ⊥))
    → get_or text at 0 ≡ 34 → decoded Plain text ≡ Some (take at text, drop (suc at) text)
plain-to_quote at [] inside plain is = absurd (omega arith)
plain-to_quote zero (b ∷ bs) inside plain is = plain-end b bs is
plain-to_quote (suc at) (b ∷ bs) inside plain is =
    let here = plain zero (omega arith) in
    plain-byte b bs here.0 here.1 ∙ ap (before b) (plain-to_quote at bs (omega arith) (λ j below. plain (suc j) (omega arith)) is)

pub plain-literal : (at : ℕ) (text : List ℕ) → IsFirstByte (is_byte2 34 92) text (Some at) → get_or text at 0 ≡ 34
    → decoded Plain text ≡ Some (take at text, drop (at + 1) text)
plain-literal at text found is =
    rw (add-one at) (plain-to_quote at text found.0.high (λ j below. no_sign text j (found.0.before j (omega arith) below)) is)
