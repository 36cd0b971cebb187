-- Laws of the characters of a text and of the places where sets of characters occur.
use Rattle.std.specs.Prelude.{◌≡◌, ℕ, ◌+◌, ◌-◌, ◌<◌, ◌≤◌, Bool, true, false, ◌&&◌, None, Some, List, [], ◌∷◌, ◌++◌, length, take, drop, slice_index}
use Rattle.std.proofs.Common.{sym, ◌∙◌, ap, subst, arith, ⊎_elim, length-append, length-drop, get_or-drop, add-zero, length-take-le, take-append-drop, append_assoc}
use Rattle.std.proofs.lemmas.Bool.{cond-true, cond-false, cases_Bool, cases_lt, and_parts, and_from, false≢true}
use Rattle.std.proofs.lemmas.List.{drop_all}
use Rattle.std.proofs.lemmas.Bool.Decides.{nat_tests}
use Rattle.std.proofs.lemmas.Option.{none-some, some_pair_parts, cond_some, option_and_then_some}
use Rattle.std.proofs.lemmas.Str.{IsUtf8-drop, IsUtf8-between, IsCharBoundary-past_char, drop_past_char, chars_past_char, chars-nil, encode_same, length-encode, len_utf8_bounds, char_from_byte, len_utf8_ascii}
use Rattle.std.specs.Char.{len_utf8, encode_utf8, IsScalar}
use Rattle.std.specs.Option.{option_and_then}
use Rattle.std.specs.Str.{IsUtf8, IsCharBoundary, chars, encode_utf8_all}
use lib.Utf8.{scalar, scalars}
use Rattle.hip_match.specs.Occurrence.{IsCut, IsOneChar, is_boundary}
use Rattle.hip_match.specs.Characters.{char_at, first_char, end_if, char_ends}

pub is_boundary-true : (t : List ℕ) (i : ℕ) → IsCharBoundary t i → is_boundary t i ≡ true
is_boundary-true t i h = let le = h.0 in let lead = h.1 in grind (arith, nat_tests)

pub is_boundary-is : (t : List ℕ) (i : ℕ) → is_boundary t i ≡ true → IsCharBoundary t i
is_boundary-is t i h = (grind (arith, nat_tests), λ lt high. grind (arith, nat_tests))

-- the character c starts at i
pub record StartsChar (t : List ℕ) (i c : ℕ) : Type 0 where
  pub scalar : IsScalar c
  pub split : drop i t ≡ encode_utf8 c ++ drop (i + len_utf8 c) t
  pub end : IsCharBoundary t (i + len_utf8 c)
  pub at : char_at t i ≡ Some (c, i + len_utf8 c)

pub char_at-split : (t rest : List ℕ) (i c : ℕ) → IsUtf8 (drop i t) → IsCharBoundary t i → drop i t ≡ encode_utf8 c ++ rest → char_at t i ≡ Some (c, i + len_utf8 c)
unfolding char_at
char_at-split t rest i c utf8 cut split =
    cond-true _ _ _ (is_boundary-true t i cut) ∙ ap (first_char i) (chars_past_char (drop i t) rest c utf8 split)

starts_with : (t : List ℕ) (i : ℕ) → IsUtf8 (drop i t) → IsCharBoundary t i → (cs : List ℕ) → scalars cs ≡ true → encode_utf8_all cs ≡ drop i t → i < length t → (c : ℕ) × StartsChar t i c
starts_with t i utf8 cut [] scalar same lt = absurd (omega (arith, ap length same, length-drop i t))
starts_with t i utf8 cut (c ∷ cs) good same lt =
    let parts = and_parts (scalar c) (scalars cs) good in
    let rest = encode_utf8_all cs in
    let split : drop i t ≡ encode_utf8 c ++ rest = sym same in
    let past = drop_past_char t rest i c split in (
      c,
      record {
        scalar = parts.0;
        split = split ∙ ap (λ l. encode_utf8 c ++ l) (sym past);
        end = IsCharBoundary-past_char t rest i c cut.0 utf8 split;
        at = char_at-split t rest i c utf8 cut split;
      },
    )

-- a character starts at each boundary before the end
pub starts_char : (t : List ℕ) (i : ℕ) → IsUtf8 t → IsCharBoundary t i → i < length t → (c : ℕ) × StartsChar t i c
starts_char t i utf8 cut lt = let rest = IsUtf8-drop t i utf8 cut in starts_with t i rest cut rest.0 rest.1.0 rest.1.1 lt

-- no character starts at the end
pub char_at-end : (t : List ℕ) (i : ℕ) → length t ≤ i → char_at t i ≡ None
unfolding char_at
char_at-end t i ge =
    ⊎_elim
    (λ yes. cond-true _ _ _ yes ∙ ap (λ l. first_char i (chars l)) (drop_all i t ge) ∙ ap (first_char i) chars-nil)
    (λ no. cond-false _ _ _ no)
    (cases_Bool (is_boundary t i))

pub char_at-off : (t : List ℕ) (i : ℕ) → ¬ IsCharBoundary t i → char_at t i ≡ None
unfolding char_at
char_at-off t i off = ⊎_elim (λ yes. absurd (off (is_boundary-is t i yes))) (λ no. cond-false _ _ _ no) (cases_Bool (is_boundary t i))

-- `char_at` gives a character that starts there
pub char_at-starts : (t : List ℕ) (i c j : ℕ) → IsUtf8 t → char_at t i ≡ Some (c, j) → IsCharBoundary t i × StartsChar t i c × (j ≡ i + len_utf8 c)
char_at-starts t i c j utf8 is =
    ⊎_elim
    (λ yes.
    let cut = is_boundary-is t i yes in
    ⊎_elim
    (λ (lt : i < length t).
    let found = starts_char t i utf8 cut lt in
    let parts = some_pair_parts _ _ _ _ (sym found.1.at ∙ is) in
    let P : ℕ → Type 0 = StartsChar t i in
    (cut, subst P parts.0 found.1, sym parts.1 ∙ ap (λ d. i + len_utf8 d) parts.0))
    (λ (ge : length t ≤ i). absurd (none-some (c, j) (sym (char_at-end t i ge) ∙ is)))
    (cases_lt i (length t)))
    (λ no. absurd (none-some (c, j) (sym (char_at-off t i (λ cut. false≢true (sym no ∙ is_boundary-true t i cut))) ∙ is)))
    (cases_Bool (is_boundary t i))

-- no boundary lies within a character
within_one : (t : List ℕ) (i c k : ℕ) → StartsChar t i c → i < k → k ≤ length t → k < i + len_utf8 c
    → (ds : List ℕ) → encode_utf8_all ds ≡ take (k - i) (drop i t) → ⊥
within_one t i c k starts lo top hi [] same =
    omega (arith, ap length same, length-take-le (k - i) (drop i t) (omega (arith, length-drop i t)))
within_one t i c k starts lo top hi (d ∷ ds) same =
    let rest = encode_utf8_all ds in
    let whole : drop i t ≡ encode_utf8 d ++ (rest ++ drop (k - i) (drop i t)) =
    sym (take-append-drop (k - i) (drop i t)) ∙ ap (λ l. l ++ drop (k - i) (drop i t)) (sym same) ∙ append_assoc (encode_utf8 d) rest (drop (k - i) (drop i t)) in
    let one = encode_same c d (drop (i + len_utf8 c) t) (rest ++ drop (k - i) (drop i t)) (sym starts.split ∙ whole) in
    omega (arith, ap length same, length-append (encode_utf8 d) rest, length-encode d, ap len_utf8 one.0, length-take-le (k - i) (drop i t) (omega (arith, length-drop i t)))

pub no_boundary_within : (t : List ℕ) (i c k : ℕ) → IsUtf8 t → IsCharBoundary t i → StartsChar t i c → i < k → k < i + len_utf8 c → ¬ IsCharBoundary t k
no_boundary_within t i c k utf8 cut starts lo hi inside =
    let part = IsUtf8-between t i k utf8 (omega arith) cut inside in
    within_one t i c k starts lo inside.0 hi part.0 part.1.1

-- ---- where a set of characters occurs

pub char_ends-is : (p : ℕ → Bool) (t : List ℕ) (a b : ℕ) → IsUtf8 t → char_ends p t a ≡ Some b
    → IsCharBoundary t a × ((c : ℕ) × StartsChar t a c × (p c ≡ true) × (b ≡ a + len_utf8 c))
char_ends-is p t a b utf8 is =
    option_and_then_some (end_if p) (char_at t a) b is (λ x at kept.
    let both = cond_some (scalar x.0 && p x.0) x.1 b kept in
    let found = char_at-starts t a x.0 x.1 utf8 at in
    (found.0, (x.0, found.1, (and_parts (scalar x.0) (p x.0) both.0).1, sym both.1 ∙ found.2)))

pub char_ends-spans : (p : ℕ → Bool) (t : List ℕ) (a b : ℕ) → IsUtf8 t → char_ends p t a ≡ Some b → IsCut t (a, b)
char_ends-spans p t a b utf8 is =
    let found = char_ends-is p t a b utf8 is in
    record { start = found.0; end = rw found.1.3 found.1.1.end; ordered = omega (arith, found.1.3) }

pub char_ends-one_char : (p : ℕ → Bool) (t : List ℕ) (a b : ℕ) → IsUtf8 t → char_ends p t a ≡ Some b → IsOneChar t (a, b)
char_ends-one_char p t a b utf8 is =
    let found = char_ends-is p t a b utf8 is in
    let c = found.1.0 in
    let end : b ≡ a + len_utf8 c = found.1.3 in
    record { holds = omega (arith, len_utf8_bounds c); one = λ k lo hi. no_boundary_within t a c k utf8 found.0 found.1.1 lo (omega arith) }

pub char_ends-one_start : (p : ℕ → Bool) (t : List ℕ) (a b c : ℕ) → IsUtf8 t → char_ends p t a ≡ Some c → char_ends p t b ≡ Some c → a ≡ b
char_ends-one_start p t a b c utf8 first second =
    let one = char_ends-one_char p t a c utf8 first in
    let two = char_ends-one_char p t b c utf8 second in
    let up : a < c = one.holds in
    let over : b < c = two.holds in
    ⊎_elim (λ (lt : a < b). absurd (one.one b lt over (char_ends-spans p t b c utf8 second).start))
    (λ (ge : b ≤ a). ⊎_elim (λ (lt : b < a). absurd (two.one a lt up (char_ends-spans p t a c utf8 first).start)) (λ (le : a ≤ b). omega arith) (cases_lt b a))
    (cases_lt a b)

-- a character that belongs, and one that does not
pub char_ends-yes : (p : ℕ → Bool) (t : List ℕ) (i c : ℕ) → StartsChar t i c → p c ≡ true → char_ends p t i ≡ Some (i + len_utf8 c)
char_ends-yes p t i c starts passes =
    ap (option_and_then (end_if p)) starts.at ∙ cond-true _ _ _ (and_from (scalar c) (p c) starts.scalar passes)

pub char_ends-no : (p : ℕ → Bool) (t : List ℕ) (i c j : ℕ) → char_at t i ≡ Some (c, j) → p c ≡ false → char_ends p t i ≡ None
char_ends-no p t i c j at fails =
    ap (option_and_then (end_if p)) at ∙ ⊎_elim (λ yes. absurd (false≢true (sym fails ∙ (and_parts (scalar c) (p c) yes).1))) (λ none. cond-false _ _ _ none) (cases_Bool (scalar c && p c))

pub char_ends-none : (p : ℕ → Bool) (t : List ℕ) (i : ℕ) → char_at t i ≡ None → char_ends p t i ≡ None
char_ends-none p t i at = ap (option_and_then (end_if p)) at

-- an ASCII character
pub char_at-ascii : (t : List ℕ) (i : ℕ) → IsUtf8 t → IsCharBoundary t i → i < length t → slice_index t i < 128 → char_at t i ≡ Some (slice_index t i, i + 1)
char_at-ascii t i utf8 cut lt low =
    let found = starts_char t i utf8 cut lt in
    let c = found.0 in
    let first : slice_index (drop i t) 0 ≡ slice_index t i = get_or-drop i t 0 0 ∙ ap (λ k. slice_index t k) (add-zero i) in
    let is : c ≡ slice_index t i = char_from_byte (drop i t) _ c found.1.split (omega (arith, first)) (omega (arith, length-drop i t)) ∙ first in
    let one : len_utf8 c ≡ 1 = len_utf8_ascii c (omega arith) in
    found.1.at ∙ ap (λ k. Some (c, i + k)) one ∙ ap (λ k. Some (k, i + 1)) is

-- the character between two boundaries that follow one another
pub char_at-between : (t : List ℕ) (i j : ℕ) → IsUtf8 t → IsCharBoundary t i → IsCharBoundary t j → i < j
    → ((k : ℕ) → i < k → k < j → ¬ IsCharBoundary t k) → (c k : ℕ) → char_at t i ≡ Some (c, k) → char_at t i ≡ Some (c, j)
char_at-between t i j utf8 start end lt none c k is =
    let found = char_at-starts t i c k utf8 is in
    let wide = (len_utf8_bounds c).0 in
    let stop : k ≡ i + len_utf8 c = found.2 in
    let same : k ≡ j =
    ⊎_elim (λ (before : k < j). let P : ℕ → Type 0 = IsCharBoundary t in absurd (none k (omega arith) before (subst P (sym stop) found.1.end)))
    (λ (ge : j ≤ k). ⊎_elim (λ (past : j < k). absurd (no_boundary_within t i c j utf8 start found.1 lt (omega arith) end)) (λ (le : k ≤ j). omega arith) (cases_lt j k))
    (cases_lt k j) in
    is ∙ ap (λ m. Some (c, m)) same
