-- The bytes of a character of two bytes or more, and its number, which they spell.
use Rattle.std.proofs.lemmas.Bool.Decides.{nat_tests}
use Rattle.std.proofs.lemmas.Grind.{common_steps}
use Rattle.std.proofs.Common.{◌≡◌, ℕ, zero, suc, ◌+◌, ◌-◌, ◌*◌, ◌/◌, ◌%◌, ◌<◌, ◌≤◌, ◌⊎◌, List, [], ◌∷◌, ◌++◌, Some, ⊎_elim, length, drop, sym, ap, ◌∙◌, arith, add-zero, le-ltb, lt-ltb, get_or-drop, slice_index, IsUtf8, IsCharBoundary}
use Rattle.std.proofs.lemmas.Bool.{cases_lt, cases_Bool}
use Rattle.std.proofs.lemmas.Str.{length-encode, IsCharBoundary-start}
use Rattle.std.proofs.lemmas.Option.{some_pair_parts}
use Rattle.std.specs.Char.{encode_utf8, len_utf8}
use Rattle.hip_match.specs.Characters.{char_at, IsCharBefore}
use Rattle.hip_match.specs.CharLaws.{StartsChar, starts_char, is_boundary-true, is_boundary-is, char_at-ascii, char_at-between}
use Rattle.hip_match.specs.Occurrence.{is_boundary}
use Rattle.hip_match.specs.Ready.{IsPreviousBoundary}

encode_1 : (c : ℕ) → c < 128 → encode_utf8 c ≡ c ∷ []
unfolding encode_utf8
encode_1 c hi = rw (lt-ltb c 128 hi)

encode_2 : (c : ℕ) → 128 ≤ c → c < 2048 → encode_utf8 c ≡ (192 + c / 64) ∷ (128 + c % 64) ∷ []
unfolding encode_utf8
encode_2 c lo hi = rw (le-ltb c 128 lo, lt-ltb c 2048 hi)

encode_3 : (c : ℕ) → 2048 ≤ c → c < 65536 → encode_utf8 c ≡ (224 + c / 4096) ∷ (128 + c / 64 % 64) ∷ (128 + c % 64) ∷ []
unfolding encode_utf8
encode_3 c lo hi = grind (arith, le-ltb, lt-ltb)

encode_4 : (c : ℕ) → 65536 ≤ c → encode_utf8 c ≡ (240 + c / 262144) ∷ (128 + c / 4096 % 64) ∷ (128 + c / 64 % 64) ∷ (128 + c % 64) ∷ []
unfolding encode_utf8
encode_4 c lo = grind (arith, le-ltb)

module _ (t : List ℕ) (i : ℕ) (utf8 : IsUtf8 t) (cut : IsCharBoundary t i) (lt : i < length t) (wide : 128 ≤ slice_index t i) where
  -- the bytes of c from i on, if c has two, three or four of them
  abbrev Two : ℕ → Type 0
  Two c = (len_utf8 c ≡ 2) × (c < 2048) × (slice_index t i ≡ 192 + c / 64) × (slice_index t (i + 1) ≡ 128 + c % 64) × (i + 2 ≤ length t)

  abbrev Three : ℕ → Type 0
  Three c =
      (len_utf8 c ≡ 3) × (c < 65536) × (slice_index t i ≡ 224 + c / 4096) × (slice_index t (i + 1) ≡ 128 + c / 64 % 64)
      × (slice_index t (i + 2) ≡ 128 + c % 64) × (i + 3 ≤ length t)

  abbrev Four : ℕ → Type 0
  Four c =
      (len_utf8 c ≡ 4) × (slice_index t i ≡ 240 + c / 262144) × (slice_index t (i + 1) ≡ 128 + c / 4096 % 64)
      × (slice_index t (i + 2) ≡ 128 + c / 64 % 64) × (slice_index t (i + 3) ≡ 128 + c % 64) × (i + 4 ≤ length t)

  module _ (c : ℕ) (starts : StartsChar t i c) where
    abbrev rest : List ℕ
    rest = drop (i + len_utf8 c) t

    byte : (bs : List ℕ) → encode_utf8 c ≡ bs → (k : ℕ) → slice_index t (i + k) ≡ slice_index (bs ++ rest) k
    byte bs e k = grind (arith, get_or-drop, starts)

    room : (bs : List ℕ) → encode_utf8 c ≡ bs → (len_utf8 c ≡ length bs) × (i + length bs ≤ length t)
    room bs e = grind (arith, length-encode)

    spelt : Two c ⊎ (Three c ⊎ Four c)
    spelt = grind (arith, nat_tests, common_steps, add-zero, encode_1, encode_2, room, byte, encode_3, encode_4, cases_lt)

  here : (c : ℕ) × StartsChar t i c
  here = starts_char t i utf8 cut lt

  bytes : Two here.0 ⊎ (Three here.0 ⊎ Four here.0)
  bytes = spelt here.0 here.1

  is : (width code : ℕ) → len_utf8 here.0 ≡ width → code ≡ here.0 → char_at t i ≡ Some (code, i + width)
  is width code one two = grind (arith, here)

  pub second : (i + 1 < length t) × (128 ≤ slice_index t (i + 1))
  second = grind (arith, bytes)

  pub third : 224 ≤ slice_index t i → (i + 2 < length t) × (128 ≤ slice_index t (i + 2))
  third high = grind (arith, bytes)

  pub fourth : 240 ≤ slice_index t i → (i + 3 < length t) × (128 ≤ slice_index t (i + 3))
  fourth high = grind (arith, bytes)

  pub is_two : slice_index t i < 224 → char_at t i ≡ Some ((slice_index t i - 192) * 64 + (slice_index t (i + 1) - 128), i + 2)
  is_two low = grind (arith, bytes, is)

  pub is_three : 224 ≤ slice_index t i → slice_index t i < 240
      → char_at t i ≡ Some (((slice_index t i - 224) * 64 + (slice_index t (i + 1) - 128)) * 64 + (slice_index t (i + 2) - 128), i + 3)
  is_three high low = grind (arith, bytes, is)

  pub is_four : 240 ≤ slice_index t i
      → char_at t i ≡ Some ((((slice_index t i - 240) * 64 + (slice_index t (i + 1) - 128)) * 64 + (slice_index t (i + 2) - 128)) * 64 + (slice_index t (i + 3) - 128), i + 4)
  is_four high = grind (arith, bytes, is)

-- ---- from the back

-- the last boundary before `to` starts the character that ends there
module _ (t : List ℕ) (to : ℕ) (utf8 : IsUtf8 t) (cut : IsCharBoundary t to) (some : 0 < to) (wide : 128 ≤ slice_index t (to - 1)) where
  found : (n : ℕ) → n < to → ((k : ℕ) → n < k → k < to → ¬ IsCharBoundary t k) → (i : ℕ) × IsPreviousBoundary t to i
  found zero lt none = grind (arith, IsCharBoundary-start t utf8)
  found (suc n) lt none =
      ⊎_elim (λ yes. grind (arith, is_boundary-is))
      (λ no. found n (omega arith) (λ k lo hi at. grind (arith, is_boundary-true)))
      (cases_Bool (is_boundary t (suc n)))

  prev : (i : ℕ) × IsPreviousBoundary t to i
  prev = grind (arith, found (to - 1))

  abbrev at : ℕ
  at = prev.0

  within : at < length t
  within = grind (arith, prev)

  ends : (c k : ℕ) → char_at t at ≡ Some (c, k) → k ≡ to
  ends c k is = (some_pair_parts _ _ _ _ (sym is ∙ char_at-between t at to utf8 prev.1.boundary cut prev.1.before prev.1.none c k is)).1

  wide_at : 128 ≤ slice_index t at
  wide_at = grind (arith, cases_lt, ends, char_at-ascii t at utf8 prev.1.boundary within)

  stop : (width : ℕ) → len_utf8 (here t at utf8 prev.1.boundary within wide_at).0 ≡ width → at + width ≡ to
  stop width is = grind (arith, ends, here t at utf8 prev.1.boundary within wide_at)

  abbrev char : (c : ℕ) × StartsChar t at c
  char = here t at utf8 prev.1.boundary within wide_at

  spelt_before : Two t at utf8 prev.1.boundary within wide_at char.0 ⊎ (Three t at utf8 prev.1.boundary within wide_at char.0 ⊎ Four t at utf8 prev.1.boundary within wide_at char.0)
  spelt_before = bytes t at utf8 prev.1.boundary within wide_at

  read : (j k : ℕ) → j ≡ k → slice_index t j ≡ slice_index t k
  read j k same = ap (slice_index t) same

  starts : (width code i : ℕ) → len_utf8 char.0 ≡ width → code ≡ char.0 → i + width ≡ to → IsCharBefore t to (code, i)
  starts width code i one two end = grind (arith, stop width one, prev, is, ends char.0)

  pub room_2 : 2 ≤ to
  room_2 = grind (arith, stop, spelt_before)

  pub before_two : 192 ≤ slice_index t (to - 2) → IsCharBefore t to (slice_index t (to - 2) * 64 + slice_index t (to - 1) - 12416, to - 2)
  before_two lead = grind (arith, spelt_before, stop, starts 2, read at (to - 2), read (at + 1) (to - 1), read (at + 1) (to - 2), read (at + 2) (to - 2))

  pub room_3 : slice_index t (to - 2) < 192 → 3 ≤ to
  room_3 low = grind (arith, spelt_before)

  pub before_three : slice_index t (to - 2) < 192 → 192 ≤ slice_index t (to - 3)
      → (925824 ≤ (slice_index t (to - 3) * 64 + slice_index t (to - 2)) * 64 + slice_index t (to - 1))
      × IsCharBefore t to ((slice_index t (to - 3) * 64 + slice_index t (to - 2)) * 64 + slice_index t (to - 1) - 925824, to - 3)
  before_three low lead = grind (arith, spelt_before, stop, starts 3, read at (to - 2), read at (to - 3), read (at + 1) (to - 2), read (at + 2) (to - 1), read (at + 1) (to - 3))

  pub before_four : slice_index t (to - 2) < 192 → slice_index t (to - 3) < 192
      → (4 ≤ to) × (63447168 ≤ ((slice_index t (to - 4) * 64 + slice_index t (to - 3)) * 64 + slice_index t (to - 2)) * 64 + slice_index t (to - 1))
      × IsCharBefore t to (((slice_index t (to - 4) * 64 + slice_index t (to - 3)) * 64 + slice_index t (to - 2)) * 64 + slice_index t (to - 1) - 63447168, to - 4)
  before_four low lower =
      ⊎_elim (λ h. grind (arith, stop 2 h.0, read at (to - 2)))
      (λ r. ⊎_elim (λ h. grind (arith, stop 3 h.0, read at (to - 3)))
      (λ h.
      grind (arith, stop 4 h.0, read at (to - 4), read (at + 1) (to - 3), read (at + 2) (to - 2), read (at + 3) (to - 1), starts 4)) r)
      spelt_before
