-- Units of UTF-16 spell just the characters that encode to them.
use Rattle.std.proofs.Common.{◌≡◌, ◌∙◌, ◌⊎◌, inl, inr, ℕ, zero, suc, ◌+◌, ◌-◌, ◌/◌, ◌%◌, ◌<◌, ◌≤◌, List, [], ◌∷◌, ◌++◌, map, length, get_or, Option, Some, None, ap, refl, subst, sym, arith}
use Rattle.std.proofs.Math.Decide.{dec_le}
use Rattle.std.proofs.Math.Nat.{lt_of_not-le}
use Rattle.std.proofs.lemmas.Bool.{lt-ltb, le-ltb, le-leb, lt-leb}
use Rattle.std.proofs.lemmas.List.Concat.{flat_map-cons}
use Rattle.std.proofs.lemmas.List.Elements.{All-head, All-tail, All-cons, All-nil}
use Rattle.std.proofs.lemmas.Str.{utf16_chars-nil, utf16_chars_lone, utf16_chars_pair}
use Rattle.std.specs.Char.Escape.{encode_utf16}
use Rattle.std.specs.Char.Utf16.{utf16_chars, lone_unit_char, surrogate_pair_char}
use Rattle.std.specs.List.{All, flat_map}
use Rattle.hip_text.specs.Utf16.{IsCharacter, IsUnit, Spells, SpellsWhatEncodes}

abbrev first : {X : Type 0} → X → List X → X
first x [] = x
first x (y ∷ ys) = y

abbrev behind : {X : Type 0} → List X → List X
behind [] = []
behind (y ∷ ys) = ys

abbrev code : Option ℕ → ℕ
code None = 0
code (Some c) = c

-- these two units are a pair
abbrev Pair : ℕ → ℕ → Type 0
Pair u v = (0xD800 ≤ u) × (u < 0xDC00) × (0xDC00 ≤ v) × (v < 0xE000)

pair-or-not : (u v : ℕ) → Pair u v ⊎ (Pair u v → ⊥)
pair-or-not u v = by-ends (dec_le 0xD800 u) (dec_le 0xDC00 u) (dec_le 0xDC00 v) (dec_le 0xE000 v) where
  by-ends : Dec (0xD800 ≤ u) → Dec (0xDC00 ≤ u) → Dec (0xDC00 ≤ v) → Dec (0xE000 ≤ v) → Pair u v ⊎ (Pair u v → ⊥)
  by-ends (no a) b c d = inr (λ pair. a pair.0)
  by-ends (yes a) (yes b) c d = inr (λ pair. absurd (omega (arith, b, pair.1)))
  by-ends (yes a) (no b) (no c) d = inr (λ pair. c pair.2)
  by-ends (yes a) (no b) (yes c) (yes d) = inr (λ pair. absurd (omega (arith, d, pair.3)))
  by-ends (yes a) (no b) (yes c) (no d) = inl (a, lt_of_not-le b, c, lt_of_not-le d)

encode-unit : (u : ℕ) → u < 0x10000 → encode_utf16 u ≡ u ∷ []
encode-unit u small = rw (lt-ltb u 0x10000 small) refl

encode-pair : (u v : ℕ) → Pair u v → encode_utf16 (surrogate_pair_char u v) ≡ u ∷ v ∷ []
encode-pair u v pair =
    let c = surrogate_pair_char u v in
    let great : 0x10000 ≤ c = omega (arith, pair.0, pair.2) in
    let high : 0xD800 + (c - 0x10000) / 0x400 ≡ u = omega (arith, pair.0, pair.1, pair.2, pair.3) in
    let low : 0xDC00 + (c - 0x10000) % 0x400 ≡ v = omega (arith, pair.0, pair.1, pair.2, pair.3) in
    rw (le-ltb c 0x10000 great) (λ i. high i ∷ low i ∷ [])

-- a unit in no pair that is no surrogate is a character, one that is isn't
lone-some : (u : ℕ) → (0xD800 ≤ u → 0xE000 ≤ u) → lone_unit_char u ≡ Some u
lone-some u apart = by-place (dec_le 0xD800 u) where
  by-place : Dec (0xD800 ≤ u) → lone_unit_char u ≡ Some u
  by-place (yes from) = rw (le-leb 0xD800 u from, le-ltb u 0xE000 (apart from)) refl
  by-place (no below) = rw (lt-leb 0xD800 u (lt_of_not-le below)) refl

lone-none : (u : ℕ) → 0xD800 ≤ u → u < 0xE000 → lone_unit_char u ≡ None
lone-none u from below = rw (le-leb 0xD800 u from, lt-ltb u 0xE000 below) refl

lone-character : (u c : ℕ) → lone_unit_char u ≡ Some c → 0xD800 ≤ u → 0xE000 ≤ u
lone-character u c read from = by-place (dec_le 0xE000 u) where
  by-place : Dec (0xE000 ≤ u) → 0xE000 ≤ u
  by-place (yes past) = past
  by-place (no before) = let none : None ≡ Some c = sym (lone-none u from (lt_of_not-le before)) ∙ read in absurd (cc)

-- units and the characters that they spell: each is a character, and their UTF-16 is the units
abbrev Encodes : List ℕ → List ℕ → Type 0
Encodes units cs = All IsCharacter cs × (flat_map encode_utf16 cs ≡ units)

spelled-pair : (u v : ℕ) (vs cs : List ℕ) → Pair u v → Spells (u ∷ v ∷ vs) cs → ((ds : List ℕ) → Spells vs ds → Encodes vs ds) → Encodes (u ∷ v ∷ vs) cs
spelled-pair u v vs [] pair spells later = let none : Some (surrogate_pair_char u v) ∷ utf16_chars vs ≡ [] = sym (utf16_chars_pair u v vs pair) ∙ spells in absurd (cc)
spelled-pair u v vs (c ∷ cs) pair spells later =
    let parts : Some (surrogate_pair_char u v) ∷ utf16_chars vs ≡ Some c ∷ map Some cs = sym (utf16_chars_pair u v vs pair) ∙ spells in
    let here : surrogate_pair_char u v ≡ c = ap (λ xs. code (first None xs)) parts in
    let more = later cs (ap behind parts) in
    let character : IsCharacter (surrogate_pair_char u v) = (omega (arith, pair.0, pair.1, pair.2, pair.3), λ from. omega (arith, pair.0, pair.2)) in (
      All-cons IsCharacter c cs (subst IsCharacter here character) more.0,
      flat_map-cons encode_utf16 c cs ∙ ap (λ xs. xs ++ flat_map encode_utf16 cs) (ap encode_utf16 (sym here) ∙ encode-pair u v pair) ∙ ap (λ xs. u ∷ v ∷ xs) more.1,
    )

spelled-lone : (u : ℕ) (us cs : List ℕ) → IsUnit u → (Pair u (get_or us 0 0) → ⊥) → Spells (u ∷ us) cs → ((ds : List ℕ) → Spells us ds → Encodes us ds) → Encodes (u ∷ us) cs
spelled-lone u us [] small apart spells later = let none : lone_unit_char u ∷ utf16_chars us ≡ [] = sym (utf16_chars_lone u us apart) ∙ spells in absurd (cc)
spelled-lone u us (c ∷ cs) small apart spells later =
    let parts : lone_unit_char u ∷ utf16_chars us ≡ Some c ∷ map Some cs = sym (utf16_chars_lone u us apart) ∙ spells in
    let read : lone_unit_char u ≡ Some c = ap (first None) parts in
    let here : u ≡ c = ap code (sym (lone-some u (lone-character u c read)) ∙ read) in
    let more = later cs (ap behind parts) in
    let character : IsCharacter u = (omega (arith, small), lone-character u c read) in (
      All-cons IsCharacter c cs (subst IsCharacter here character) more.0,
      flat_map-cons encode_utf16 c cs ∙ ap (λ xs. xs ++ flat_map encode_utf16 cs) (ap encode_utf16 (sym here) ∙ encode-unit u small) ∙ ap (λ xs. u ∷ xs) more.1,
    )

-- units encode the characters that they spell, by the first unit and the next one, where fewer units do
spelled-next : (n u : ℕ) (us cs : List ℕ) → ((vs ds : List ℕ) → length vs ≤ n → All IsUnit vs → Spells vs ds → Encodes vs ds)
    → length us ≤ n → All IsUnit (u ∷ us) → Spells (u ∷ us) cs → Pair u (get_or us 0 0) ⊎ (Pair u (get_or us 0 0) → ⊥) → Encodes (u ∷ us) cs
spelled-next n u us cs fewer fits fit spells (inr apart) =
    spelled-lone u us cs (All-head IsUnit u us fit) apart spells (λ ds. fewer us ds fits (All-tail IsUnit u us fit))
spelled-next n u [] cs fewer fits fit spells (inl pair) = absurd (omega (arith, pair.2))
spelled-next n u (v ∷ vs) cs fewer fits fit spells (inl pair) =
    spelled-pair u v vs cs pair spells (λ ds. fewer vs ds (omega (arith, fits)) (All-tail IsUnit v vs (All-tail IsUnit u (v ∷ vs) fit)))

spelled : (n : ℕ) (units cs : List ℕ) → length units ≤ n → All IsUnit units → Spells units cs → Encodes units cs
spelled n [] [] fits fit spells = (All-nil IsCharacter, refl)
spelled n [] (c ∷ cs) fits fit spells = let none : [] ≡ Some c ∷ map Some cs = sym utf16_chars-nil ∙ spells in absurd (cc)
spelled zero (u ∷ us) cs fits fit spells = absurd (omega (arith, fits))
spelled (suc n) (u ∷ us) cs fits fit spells = spelled-next n u us cs (spelled n) (omega (arith, fits)) fit spells (pair-or-not u (get_or us 0 0))

encoded-next : (c : ℕ) (cs : List ℕ) → IsCharacter c → Spells (flat_map encode_utf16 cs) cs → Spells (flat_map encode_utf16 (c ∷ cs)) (c ∷ cs)
encoded-next c cs character later = by-size (dec_le 0x10000 c) where
  by-size : Dec (0x10000 ≤ c) → Spells (flat_map encode_utf16 (c ∷ cs)) (c ∷ cs)
  by-size (no small) =
      ap utf16_chars (flat_map-cons encode_utf16 c cs ∙ ap (λ xs. xs ++ flat_map encode_utf16 cs) (encode-unit c (lt_of_not-le small)))
      ∙ utf16_chars_lone c (flat_map encode_utf16 cs) (λ pair. absurd (omega (arith, pair.1, character.1 pair.0)))
      ∙ ap (λ o. o ∷ utf16_chars (flat_map encode_utf16 cs)) (lone-some c character.1) ∙ ap (λ xs. Some c ∷ xs) later
  by-size (yes great) =
      let high = 0xD800 + (c - 0x10000) / 0x400 in
      let low = 0xDC00 + (c - 0x10000) % 0x400 in
      let units : encode_utf16 c ≡ high ∷ low ∷ [] = rw (le-ltb c 0x10000 great) refl in
      let pair : Pair high low = (omega (arith, character.0), omega (arith, character.0), omega arith, omega arith) in
      let back : surrogate_pair_char high low ≡ c = omega (arith, great) in
      ap utf16_chars (flat_map-cons encode_utf16 c cs ∙ ap (λ xs. xs ++ flat_map encode_utf16 cs) units)
      ∙ utf16_chars_pair high low (flat_map encode_utf16 cs) pair
      ∙ ap (λ d. Some d ∷ utf16_chars (flat_map encode_utf16 cs)) back ∙ ap (λ xs. Some c ∷ xs) later

encoded : (cs : List ℕ) → All IsCharacter cs → Spells (flat_map encode_utf16 cs) cs
encoded [] characters = utf16_chars-nil
encoded (c ∷ cs) characters = encoded-next c cs (All-head IsCharacter c cs characters) (encoded cs (All-tail IsCharacter c cs characters))

pub spells-what-encodes : (units cs : List ℕ) → SpellsWhatEncodes units cs
spells-what-encodes units cs = λ fit. (
  λ spells. spelled (length units) units cs (omega arith) fit spells,
  λ both. subst (λ xs. Spells xs cs) both.1 (encoded cs both.0),
)
