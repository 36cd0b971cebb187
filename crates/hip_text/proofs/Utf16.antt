-- Lemmas on units of UTF-16, by cases of two.
use Rattle.std.proofs.Common.{◌≡◌, ◌∙◌, ℕ, Bool, false, not, is_some, ◌+◌, ◌<◌, ◌≤◌, List, [], ◌∷◌, ◌++◌, map, length, get_or, Option, Some, None, ap, refl, sym, length-append, append_assoc, append-nil, arith}
use Rattle.std.proofs.lemmas.Bool.{lt-ltb, le-ltb, le-leb, lt-leb}
use Rattle.std.proofs.lemmas.Grind.{flat_map-append}
use Rattle.std.proofs.lemmas.List.{map-append}
use Rattle.std.proofs.lemmas.Str.{utf16_chars-nil, utf16_chars_lone, utf16_chars_pair}
use Rattle.std.specs.Char.Escape.{encode_utf16}
use Rattle.std.specs.Char.Utf16.{utf16_chars, utf16_lossy_chars, has_unpaired_surrogate, lone_unit_char, surrogate_pair_char}
use Rattle.std.specs.List.{flat_map, list_any}
use Rattle.std.specs.Option.{unwrap_or}
use Rattle.hip_text.specs.Utf16.{IsBehind, IsUnpaired, Spells}

one-unit : (c : ℕ) → c < 0x10000 → length (encode_utf16 c) ≡ 1
one-unit c small = rw (lt-ltb c 0x10000 small) refl

two-units : (c : ℕ) → 0x10000 ≤ c → length (encode_utf16 c) ≡ 2
two-units c great = rw (le-ltb c 0x10000 great) refl

-- a unit that is no surrogate is a character
pub behind-low : (u : ℕ) (us : List ℕ) → u < 0xD800 → IsBehind u us us
behind-low u us low =
    (u, utf16_chars_lone u us (λ pair. absurd (omega (arith, low, pair.0))) ∙ ap (λ c. c ∷ utf16_chars us) (rw (lt-leb 0xD800 u low) refl), omega (arith, one-unit u (omega (arith, low))))

pub behind-high : (u : ℕ) (us : List ℕ) → 0xE000 ≤ u → u < 0x10000 → IsBehind u us us
behind-high u us high small =
    (u, utf16_chars_lone u us (λ pair. absurd (omega (arith, high, pair.1))) ∙ ap (λ c. c ∷ utf16_chars us) (rw (le-leb 0xD800 u (omega (arith, high)), le-ltb u 0xE000 high) refl), omega (arith, one-unit u small))

surrogate : (u : ℕ) → 0xD800 ≤ u → u < 0xE000 → lone_unit_char u ≡ None
surrogate u from below = rw (le-leb 0xD800 u from, lt-ltb u 0xE000 below) refl

-- a surrogate without a partner: the second of a pair, or one before no second
pub unpaired-low : (u : ℕ) (us : List ℕ) → 0xDC00 ≤ u → u < 0xE000 → IsUnpaired u us
unpaired-low u us from below =
    (utf16_chars us, utf16_chars_lone u us (λ pair. absurd (omega (arith, from, pair.1))) ∙ ap (λ c. c ∷ utf16_chars us) (surrogate u (omega (arith, from)) below))

pub unpaired-last : (u : ℕ) (us : List ℕ) → 0xD800 ≤ u → u < 0xE000 → length us ≡ 0 → IsUnpaired u us
unpaired-last u [] from below ends =
    ([], utf16_chars_lone u [] (λ pair. absurd (omega (arith, pair.2))) ∙ (λ i. surrogate u from below i ∷ utf16_chars-nil i))
unpaired-last u (v ∷ us) from below ends = absurd (omega (arith, ends))

pub unpaired-before : (u v : ℕ) (us vs : List ℕ) → 0xD800 ≤ u → u < 0xE000 → us ≡ v ∷ vs → (0xDC00 ≤ v → 0xE000 ≤ v) → IsUnpaired u us
unpaired-before u v us vs from below goes_on apart =
    (utf16_chars us, utf16_chars_lone u us (λ pair. absurd (omega (arith, ap (λ xs. get_or xs 0 0) goes_on, pair.2, pair.3, apart (omega (arith, ap (λ xs. get_or xs 0 0) goes_on, pair.2))))) ∙ ap (λ c. c ∷ utf16_chars us) (surrogate u from below))

-- a pair is a character
pub behind-pair : (u v : ℕ) (us vs : List ℕ) → 0xD800 ≤ u → u < 0xDC00 → us ≡ v ∷ vs → 0xDC00 ≤ v → v < 0xE000 → IsBehind u us vs
behind-pair u v us vs from below goes_on low_from low_below =
    (surrogate_pair_char u v, ap (λ xs. utf16_chars (u ∷ xs)) goes_on ∙ utf16_chars_pair u v vs (from, below, low_from, low_below), omega (arith, two-units (surrogate_pair_char u v) (omega arith), ap length goes_on))

-- the units so far spell characters, and `rest` is left
abbrev pub SpellsTo : List ℕ → List ℕ → Type 0
SpellsTo units rest =
    (cs : List ℕ) × (utf16_chars units ≡ map Some cs ++ utf16_chars rest) × (length units ≡ length (flat_map encode_utf16 cs) + length rest)

pub spells-more : (units rest : List ℕ) (u : ℕ) (us later : List ℕ) → SpellsTo units rest → rest ≡ u ∷ us → IsBehind u us later → SpellsTo units later
spells-more units rest u us later so_far goes_on behind = (
  so_far.0 ++ behind.0 ∷ [],
  so_far.1 ∙ ap (λ xs. map Some so_far.0 ++ xs) (ap utf16_chars goes_on ∙ behind.1) ∙ sym (append_assoc (map Some so_far.0) (Some behind.0 ∷ []) (utf16_chars later)) ∙ ap (λ xs. xs ++ utf16_chars later) (sym (map-append Some so_far.0 (behind.0 ∷ []))),
  omega (arith, so_far.2, behind.2, ap length goes_on, ap length (flat_map-append encode_utf16 so_far.0 (behind.0 ∷ [])), length-append (flat_map encode_utf16 so_far.0) (encode_utf16 behind.0 ++ []), length-append (encode_utf16 behind.0) []),
)

pub spells-all : (units rest : List ℕ) → SpellsTo units rest → length rest ≡ 0 → (cs : List ℕ) × Spells units cs
spells-all units [] so_far ends = (so_far.0, so_far.1 ∙ ap (λ xs. map Some so_far.0 ++ xs) utf16_chars-nil ∙ append-nil (map Some so_far.0))
spells-all units (u ∷ us) so_far ends = absurd (omega (arith, ends))

-- where no surrogate is without a partner, no character is U+FFFD in place of one
none-replaced : (found : List (Option ℕ)) → list_any (λ o. not (is_some o)) found ≡ false → found ≡ map Some (map (λ o. unwrap_or o 0xFFFD) found)
none-replaced [] all = refl
none-replaced (Some c ∷ found) all = ap (λ xs. Some c ∷ xs) (none-replaced found all)
none-replaced (None ∷ found) all = absurd (cc)

pub spells-lossy : (units : List ℕ) (unpaired : Bool) → unpaired ≡ has_unpaired_surrogate units → unpaired ≡ false → Spells units (utf16_lossy_chars units)
spells-lossy units unpaired is none = none-replaced (utf16_chars units) (sym is ∙ none)
