-- Where a text may be cut (Rust's `str::is_char_boundary`): at its end, and before each byte that is the first of a character, one
-- outside 0x80..=0xBF.
use Rattle.std.specs.Prelude.{◌≡◌, ℕ, List, [], ◌∷◌, length, Bool, true, false, ◌&&◌, ◌||◌, nat_eq, nat_le, slice_index, refl}
use Rattle.std.specs.Fmt.{is_char_start}

abbrev pub is_boundary : List ℕ → ℕ → Bool
is_boundary text i = nat_le i (length text) && (nat_eq i (length text) || is_char_start (slice_index text i))

-- `é` is the bytes C3 A9, between which it isn't cut
pub between_bytes : is_boundary (195 ∷ 169 ∷ []) 1 ≡ false
between_bytes = refl

pub at_the_ends : (is_boundary (195 ∷ 169 ∷ []) 0 ≡ true) × (is_boundary (195 ∷ 169 ∷ []) 2 ≡ true) × (is_boundary (195 ∷ 169 ∷ []) 3 ≡ false)
at_the_ends = (refl, refl, refl)
