-- The searches for a character of a set, a character at a time.
use Rattle.std.proofs.Common.{◌≡◌, ℕ, ◌+◌, ◌<◌, ◌≤◌, Bool, true, false, List, Option, Some, None, length, arith, IsUtf8, IsCharBoundary}
use Rattle.std.proofs.lemmas.Bool.{cases_lt, cond-true, and_from, false≢true}
use Rattle.std.proofs.lemmas.Option.{none-some, some_pair_parts}
use Rattle.std.proofs.lemmas.Str.{len_utf8_bounds}
use Rattle.hip_match.specs.Occurrence.{NoneStarts, start_of}
use Rattle.hip_match.specs.Characters.{char_at, char_ends, IsCharBefore}
use Rattle.hip_match.specs.CharLaws.{starts_char, char_at-end, char_at-off, char_at-starts, no_boundary_within, char_ends-is, char_ends-spans, char_ends-one_char, char_ends-one_start, char_ends-yes, char_ends-no, char_ends-none}
use Rattle.hip_match.proofs.RightmostLemmas.{start_among-found, start_among-none}

-- a character starts before the end
pub some_char : (t : List ℕ) (i : ℕ) → IsUtf8 t → IsCharBoundary t i → i < length t → char_at t i ≡ None → ⊥
some_char t i utf8 cut lt none = grind (arith, starts_char, none-some)

module _ (p : ℕ → Bool) (t : List ℕ) (utf8 : IsUtf8 t) where
  -- a character that belongs
  pub ends_here : (i c j : ℕ) → char_at t i ≡ Some (c, j) → p c ≡ true → char_ends p t i ≡ Some j
  ends_here i c j is passes = grind (arith, cond-true, and_from, char_at-starts)

  pub first_step : (from i c j : ℕ) → char_at t i ≡ Some (c, j) → p c ≡ false → NoneStarts (char_ends p t) from i → NoneStarts (char_ends p t) from j
  first_step from i c j is fails none k lo hi = grind (arith, cases_lt, char_at-starts, char_ends-none, char_at-off, no_boundary_within, char_ends-no)

  pub first_done : (from i : ℕ) → IsCharBoundary t i → char_at t i ≡ None → NoneStarts (char_ends p t) from i → (k : ℕ) → from ≤ k → char_ends p t k ≡ None
  first_done from i cut is none k lo = grind (arith, char_at-end, char_ends-none, some_char)

  -- an occurrence that ends after the character before `end` ends after `end`
  pub last_step : (to end : ℕ) (r : ℕ × ℕ) → IsCharBefore t end r → p r.0 ≡ false
      → ((a b : ℕ) → char_ends p t a ≡ Some b → end < b → to < b) → (a b : ℕ) → char_ends p t a ≡ Some b → r.1 < b → to < b
  last_step to end r h fails none a b is lt =
      grind (
        arith,
        none a b is,
        cases_lt,
        char_at-starts t r.1 r.0 end utf8 h.is,
        no_boundary_within,
        char_ends-is p t a b utf8 is,
        char_ends-one_char p t a b utf8 is,
        char_ends-spans p t a b utf8 is,
        some_pair_parts,
        false≢true,
      )

  pub start_of-found : (to a : ℕ) → char_ends p t a ≡ Some to → start_of (char_ends p t) to ≡ Some a
  start_of-found to a is =
      let up : a < to = (char_ends-one_char p t a to utf8 is).holds in
      start_among-found (char_ends p t) 0 (to + 1) to a (λ b c first second. char_ends-one_start p t b c to utf8 first second) (omega arith) (omega arith) is

  pub start_of-none : (to : ℕ) → ((a : ℕ) → ¬ (char_ends p t a ≡ Some to)) → start_of (char_ends p t) to ≡ None
  start_of-none to none = grind (arith, start_among-none)

  pub char_before-yes : (to : ℕ) (r : ℕ × ℕ) → IsCharBefore t to r → p r.0 ≡ true → char_ends p t r.1 ≡ Some to
  char_before-yes to r h passes = grind (arith, char_at-starts, char_ends-yes)

  pub char_before-no : (to : ℕ) (r : ℕ × ℕ) → IsCharBefore t to r → p r.0 ≡ false → start_of (char_ends p t) to ≡ None
  char_before-no to r h fails = start_of-none to (λ a is. grind (arith, last_step to to r h fails))

  pub start_of-zero : (to : ℕ) → to ≡ 0 → start_of (char_ends p t) to ≡ None
  start_of-zero to zero = start_of-none to (λ a is. grind (arith, char_ends-one_char))

  pub last_done : (to end : ℕ) → end ≡ 0 → ((a b : ℕ) → char_ends p t a ≡ Some b → end < b → to < b) → (a b : ℕ) → char_ends p t a ≡ Some b → to < b
  last_done to end zero none a b is = grind (arith, char_ends-one_char)

-- a step over one character
pub moved : (t : List ℕ) (i c j : ℕ) → IsUtf8 t → char_at t i ≡ Some (c, j) → (i < j) × IsCharBoundary t j
moved t i c j utf8 is = grind (arith, char_at-starts, len_utf8_bounds)

pub none_more : (e : ℕ → Option ℕ) (i j : ℕ) → NoneStarts e i j → e j ≡ None → NoneStarts e i (j + 1)
none_more e i j none here k lo hi = grind (arith, cases_lt)

pub none_past : (p : ℕ → Bool) (t : List ℕ) (from : ℕ) → NoneStarts (char_ends p t) from (length t) → (k : ℕ) → from ≤ k → char_ends p t k ≡ None
none_past p t from none k lo = grind (arith, char_ends-none, char_at-end, cases_lt)
