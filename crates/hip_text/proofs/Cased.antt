-- A text stays a text where ASCII letters take the other case: each of its other bytes is kept.
use Rattle.std.proofs.Common.{◌≡◌, ◌∙◌, ℕ, ◌+◌, ◌-◌, ◌/◌, ◌<◌, ◌≤◌, ◌⊎◌, inl, inr, Bool, true, false, ◌&&◌, cond, List, [], ◌∷◌, ◌++◌, map, Result, Ok, Err, refl, sym, ap, nat_lt, rules, arith}
use Rattle.std.proofs.Math.Utf8.{scalar, scalars, encode, encodes, low_scalar, next}
use Rattle.std.proofs.lemmas.Bool.{cases_lt, ltb-true}
use Rattle.std.proofs.lemmas.Str.{encode_ascii, IsUtf8-from_is_utf8, is_utf8-from_IsUtf8}
use Rattle.std.proofs.lemmas.List.{map-append}
use Rattle.std.proofs.lemmas.Str.Ascii.{lowercase_ascii, uppercase_ascii}
use Rattle.std.specs.Char.{to_ascii_lowercase, to_ascii_uppercase}
use Rattle.std.specs.Str.{is_utf8}
use Rattle.hip_bytes.specs.Handle.{Handle}
use Rattle.hip_bytes.specs.Change.{WriteAnswers}

both : (x y : Bool) → (x && y) ≡ true → (x ≡ true) × (y ≡ true)
both true y all = (refl, all)
both false y all = search rules

module _ (f : ℕ → ℕ) (low : (b : ℕ) → b < 128 → f b < 128) (high : (b : ℕ) → 128 ≤ b → f b ≡ b) where
  -- of the forms that a character may have, those of two bytes and more are kept
  kept : (p q r : Bool) (c : ℕ) → (p ≡ true → ⊥) → (x y z : ℕ)
      → map f (cond p (c ∷ []) (cond q ((192 + x) ∷ next c ∷ []) (cond r ((224 + y) ∷ next (c / 64) ∷ next c ∷ []) ((240 + z) ∷ next (c / 4096) ∷ next (c / 64) ∷ next c ∷ []))))
      ≡ cond p (c ∷ []) (cond q ((192 + x) ∷ next c ∷ []) (cond r ((224 + y) ∷ next (c / 64) ∷ next c ∷ []) ((240 + z) ∷ next (c / 4096) ∷ next (c / 64) ∷ next c ∷ [])))
  kept true q r c big x y z = absurd (big refl)
  kept false true r c big x y z = λ i. high (192 + x) (omega arith) i ∷ high (next c) (omega arith) i ∷ []
  kept false false true c big x y z = λ i. high (224 + y) (omega arith) i ∷ high (next (c / 64)) (omega arith) i ∷ high (next c) (omega arith) i ∷ []
  kept false false false c big x y z = λ i. high (240 + z) (omega arith) i ∷ high (next (c / 4096)) (omega arith) i ∷ high (next (c / 64)) (omega arith) i ∷ high (next c) (omega arith) i ∷ []

  wide : (c : ℕ) → 128 ≤ c → map f (encode c) ≡ encode c
  unfolding encode
  wide c long = kept (nat_lt c 128) (nat_lt c 2048) (nat_lt c 65536) c (λ small. absurd (omega (arith, ltb-true c 128 small, long))) (c / 64) (c / 4096) (c / 262144)

  letter : (c : ℕ) → map f (encode c) ≡ encode (f c)
  letter c = by (cases_lt c 128) where
    by : (c < 128) ⊎ (128 ≤ c) → map f (encode c) ≡ encode (f c)
    by (inl small) = ap (map f) (encode_ascii c small) ∙ sym (encode_ascii (f c) (low c small))
    by (inr long) = wide c long ∙ ap encode (sym (high c long))

  stays : (c : ℕ) → scalar c ≡ true → scalar (f c) ≡ true
  stays c is = by (cases_lt c 128) where
    by : (c < 128) ⊎ (128 ≤ c) → scalar (f c) ≡ true
    by (inl small) = low_scalar (f c) (omega (arith, low c small))
    by (inr long) = ap scalar (high c long) ∙ is

  letters : (cs : List ℕ) → scalars cs ≡ true → (scalars (map f cs) ≡ true) × (encodes (map f cs) ≡ map f (encodes cs))
  letters [] all = (refl, refl)
  letters (c ∷ cs) all =
      let are = both (scalar c) (scalars cs) all in
      let rest = letters cs are.1 in
      (ap (λ first. first && scalars (map f cs)) (stays c are.0) ∙ rest.0, (λ i. sym (letter c) i ++ rest.1 i) ∙ sym (map-append f (encode c) (encodes cs)))

  pub utf8-mapped : (text : List ℕ) → is_utf8 text ≡ true → is_utf8 (map f text) ≡ true
  utf8-mapped text utf8 =
      let spelt = IsUtf8-from_is_utf8 text utf8 in
      let mapped = letters spelt.0 spelt.1.0 in
      is_utf8-from_IsUtf8 (map f text) (map f spelt.0, (mapped.0, mapped.1 ∙ ap (map f) spelt.1.1))

-- a byte past the letters is kept
past : (p q : Bool) (b other : ℕ) → (q ≡ true → ⊥) → cond p b (cond q other b) ≡ b
past true q b other not_among = refl
past false true b other not_among = absurd (not_among refl)
past false false b other not_among = refl

pub utf8-lowercase : (text : List ℕ) → is_utf8 text ≡ true → is_utf8 (map to_ascii_lowercase text) ≡ true
utf8-lowercase = utf8-mapped to_ascii_lowercase lowercase_ascii
    (λ b long. past (nat_lt b 65) (nat_lt b 91) b (b + 32) (λ small. absurd (omega (arith, ltb-true b 91 small, long))))

pub utf8-uppercase : (text : List ℕ) → is_utf8 text ≡ true → is_utf8 (map to_ascii_uppercase text) ≡ true
utf8-uppercase = utf8-mapped to_ascii_uppercase uppercase_ascii
    (λ b long. past (nat_lt b 97) (nat_lt b 123) b (b - 32) (λ small. absurd (omega (arith, ltb-true b 123 small, long))))

-- a text that was written over by another
pub utf8-written : {T E : Type 0} (shares : Bool) (old : Handle) (items : List ℕ) (result : Result T E) (new : Handle) → WriteAnswers shares old items result new
    → is_utf8 old.items ≡ true → is_utf8 items ≡ true → is_utf8 new.items ≡ true
utf8-written shares old items (Ok done) new written utf8 over = ap is_utf8 written.items_are ∙ over
utf8-written shares old items (Err error) new refused utf8 over = ap (λ (handle : Handle). is_utf8 handle.items) refused.1 ∙ utf8

pub ruleset cased = (utf8-lowercase, utf8-uppercase, utf8-written)
