-- The parts of bytes between those that pass a test, from either end.
use Rattle.std.proofs.Common.{◌≡◌, ◌∙◌, ℕ, zero, suc, ◌+◌, ◌-◌, ◌<◌, ◌≤◌, Bool, true, false, List, [], ◌∷◌, ◌++◌, Option, None, Some, IfSome, length, slice_index, ap, sym, refl, arith, ⊎_elim, inl, inr, subst, reverse, IsUtf8, IsCharBoundary}
use Rattle.std.proofs.lemmas.Bool.{cases_lt, cond-true, false≢true, and_parts, and_from}
use Rattle.std.proofs.lemmas.Bool.Decides.{nat_tests}
use Rattle.std.proofs.lemmas.Grind.{common_steps}
use Rattle.std.proofs.lemmas.List.{reverse-append}
use Rattle.std.proofs.lemmas.Option.{none-some, same_Some, cond_some}
use Rattle.memchr.specs.Find.{IsFirst, IsLast, Passes}
use Rattle.hip_match.specs.Bytes.{byte_ends}
use Rattle.hip_match.specs.Characters.{char_ends}
use Rattle.hip_match.specs.CharLaws.{char_ends-spans}
use Rattle.hip_match.specs.Leftmost.{leftmost_between, leftmost_from, end_within}
use Rattle.hip_match.specs.Marks.{IsBackPart, IsFrontPart, marked_parts}
use Rattle.hip_match.specs.Occurrence.{EndsLast, IsCut, NoneCrosses, StartsFirst}
use Rattle.hip_match.specs.Pieces.{gaps, split}
use Rattle.hip_match.specs.Rightmost.{rightmost_between}
use Rattle.hip_match.specs.Ready.{IsWindow}
use Rattle.hip_match.proofs.LeftmostLemmas.{leftmost_between-some, leftmost_from-none, end_within-none, end_within-past}
use Rattle.hip_match.proofs.OccurrenceLemmas.{option_cases}
use Rattle.hip_match.proofs.PiecesLemmas.{gaps-append}
use Rattle.hip_match.proofs.ReversalLemmas.{leftmost_between-reverse}
use Rattle.hip_match.proofs.RightmostLemmas.{rightmost_between-some}
use Rattle.hip_match.proofs.StartLemmas.{ascii-is, ascii-some}

module _ (p : ℕ → Bool) (t : List ℕ) where
  abbrev e : ℕ → Option ℕ
  e = byte_ends p t

  pub byte-is : (a b : ℕ) → e a ≡ Some b → (a < length t) × (p (slice_index t a) ≡ true) × (b ≡ a + 1)
  byte-is a b is = grind (arith, nat_tests, common_steps, cond_some, and_parts)

  pub byte-some : (a : ℕ) → a < length t → p (slice_index t a) ≡ true → e a ≡ Some (a + 1)
  byte-some a lt is = grind (arith, nat_tests, common_steps, cond-true, and_from)

  pub byte-none : (a : ℕ) → p (slice_index t a) ≡ false → e a ≡ None
  byte-none a fails = option_cases (e a) (λ none. none) (λ b is. absurd (false≢true (sym fails ∙ (byte-is a b is).1)))

  -- ---- the first and the last

  pub next-match : (from : ℕ) (r : Option ℕ) → IsFirst (Passes p t) from (length t) r → (a : ℕ) → r ≡ Some a → StartsFirst e from (a, a + 1)
  next-match from None found a is = absurd (none-some a is)
  next-match from (Some k) found a is =
      let same = same_Some k a is in
      grind (arith, nat_tests, common_steps, byte-some, byte-none)

  pub quiet-ahead : (from : ℕ) → IsFirst (Passes p t) from (length t) None → (k : ℕ) → from ≤ k → e k ≡ None
  quiet-ahead from none k le = option_cases (e k) (λ free. free) (λ b is. let here = byte-is k b is in absurd (none k le here.0 here.1))

  pub last-match : (to at : ℕ) → IsLast (Passes p t) 0 to (Some at) → to ≤ length t → EndsLast e to (at, at + 1)
  last-match to at found fits = record {
    before = (let high = found.0.high in omega arith);
    occurs = byte-some at (let high = found.0.high in omega arith) found.1;
    last = λ a b is later. let here = byte-is a b is in
        ⊎_elim (λ (near : a < to). absurd (found.0.after a (omega (arith, here.2)) near here.1)) (λ (far : to ≤ a). omega (arith, here.2)) (cases_lt a to);
  }

  pub quiet-behind : (to : ℕ) → IsLast (Passes p t) 0 to None → (a b : ℕ) → e a ≡ Some b → to < b
  quiet-behind to none a b is =
      let here = byte-is a b is in
      ⊎_elim (λ (near : a < to). absurd (none a (omega arith) near here.1)) (λ (far : to ≤ a). omega (arith, here.2)) (cases_lt a to)

  apart : (a b c d : ℕ) → e a ≡ Some b → e c ≡ Some d → a < c → b ≤ c
  apart a b c d first second lt = omega (arith, (byte-is a b first).2)

  holds : (a b : ℕ) → e a ≡ Some b → a < b
  holds a b is = omega (arith, (byte-is a b is).2)

  pub sorted : (a b : ℕ) → e a ≡ Some b → a ≤ b
  sorted a b is = omega (arith, (byte-is a b is).2)

  pub one_start : (a b c : ℕ) → e a ≡ Some c → e b ≡ Some c → a ≡ b
  one_start a b c left right = omega (arith, (byte-is a c left).2, (byte-is b c right).2)

  clear : (i : ℕ) → NoneCrosses e i
  clear i a b is lt = omega (arith, (byte-is a b is).2)

  reversed : (from to : ℕ) → from ≤ to → leftmost_between e from to ≡ reverse (rightmost_between e from to)
  reversed from to le = leftmost_between-reverse e from to holds apart (clear from) le (clear to)

  module _ (from to : ℕ) (le : from ≤ to) where
    -- one part, where each occurrence from its start on ends behind its end
    only : ((a b : ℕ) → e a ≡ Some b → from ≤ a → to < b) → marked_parts p t from to ≡ (from, to) ∷ []
    only quiet = ap (λ l. gaps from l to) (leftmost_from-none (λ k. end_within to (e k)) from (to + 1 - from) (λ k lo hi. grind (arith, option_cases, end_within-none, end_within-past)))

    pub first_part : (at : ℕ) → IsFirst (Passes p t) from (length t) (Some at) → at < to → marked_parts p t from to ≡ (from, at) ∷ marked_parts p t (at + 1) to
    first_part at found lt =
        let next = next-match from (Some at) found at refl in
        let after = next.after in
        ap (λ l. gaps from l to)
        (leftmost_between-some e from to at (at + 1) (at + 1) next (omega arith) (omega arith) (omega arith) (omega arith) (omega arith) (λ k lo mid hi. absurd (omega arith)))

    pub last_part : (at : ℕ) → IsLast (Passes p t) 0 to (Some at) → to ≤ length t → from ≤ at → marked_parts p t from to ≡ marked_parts p t from at ++ (at + 1, to) ∷ []
    last_part at found fits low =
        let last : EndsLast e to (at, at + 1) = last-match to at found fits in
        let left = reversed from at low in
        ap (λ l. gaps from l to) (grind (arith, nat_tests, common_steps, reversed from to le, left, rightmost_between-some e from to sorted one_start at (at + 1) last low at, reverse-append))
        ∙ gaps-append (leftmost_between e from at) from to (at, at + 1)

    -- the last part, from the front and from the back
    pub only_ahead : (r : Option ℕ) → IsFirst (Passes p t) from (length t) r → ((at : ℕ) → r ≡ Some at → to ≤ at) → marked_parts p t from to ≡ (from, to) ∷ []
    only_ahead None found past = only (λ a b is low. absurd (none-some b (sym (quiet-ahead from found a low) ∙ is)))
    only_ahead (Some at) found past = only (λ a b is low. grind (arith, nat_tests, common_steps, byte-is a b is, past at refl, cases_lt))

    pub only_behind : (r : Option ℕ) → IsLast (Passes p t) 0 to r → ((at : ℕ) → r ≡ Some at → at < from) → marked_parts p t from to ≡ (from, to) ∷ []
    only_behind None found past = only (λ a b is low. grind (arith, nat_tests, common_steps, byte-is a b is, cases_lt))
    only_behind (Some at) found past = only (λ a b is low. grind (arith, nat_tests, common_steps, byte-is a b is, past at refl, cases_lt))

-- ---- in a text, where no byte that passes is one of a character past ASCII

module _ (p : ℕ → Bool) (low : (c : ℕ) → 128 ≤ c → p c ≡ false) (t : List ℕ) where
  -- before and behind a byte that passes is a boundary
  passed-cut : IsUtf8 t → (at : ℕ) → at < length t → p (slice_index t at) ≡ true → IsCut t (at, at + 1)
  passed-cut utf8 at lt is = char_ends-spans p t at (at + 1) utf8 (ascii-some p low t utf8 at lt is)

  pub front_cut : (from to next : ℕ) (part : Option (ℕ × ℕ)) → IsWindow t from to → IsFrontPart p t from to part next → IfSome part (IsCut t) × IsWindow t next to
  front_cut from to next None w goes =
      let P : ℕ → Type 0 = λ i. IsWindow t i to in
      (tt, subst P (sym goes) w)
  front_cut from to next (Some part) w (start, inl (low_end, lt, is, goes)) =
      let cut = passed-cut w.utf8 part.1 (omega (arith, lt, w.end.0)) is in
      let P : ℕ → Type 0 = IsCharBoundary t in (
        record { start = subst P (sym start) w.start; end = cut.start; ordered = omega (arith, start, low_end) },
        record { utf8 = w.utf8; start = subst P (sym goes) cut.end; end = w.end; ordered = omega (arith, lt, goes) },
      )
  front_cut from to next (Some part) w (start, inr (end, goes)) =
      let P : ℕ → Type 0 = IsCharBoundary t in (
        record { start = subst P (sym start) w.start; end = subst P (sym end) w.end; ordered = omega (arith, start, end, w.ordered) },
        record { utf8 = w.utf8; start = subst P (sym goes) w.start; end = w.end; ordered = omega (arith, w.ordered, goes) },
      )

  pub back_cut : (from to end : ℕ) (part : Option (ℕ × ℕ)) → IsWindow t from to → IsBackPart p t from to part end → IfSome part (IsCut t) × IsWindow t from end
  back_cut from to end None w same =
      let P : ℕ → Type 0 = λ i. IsWindow t from i in
      (tt, subst P (sym same) w)
  back_cut from to end (Some part) w (stop, inl (low_end, lt, is, starts)) =
      let cut = passed-cut w.utf8 end (omega (arith, lt, w.end.0)) is in
      let P : ℕ → Type 0 = IsCharBoundary t in (
        record { start = subst P (sym starts) cut.end; end = subst P (sym stop) w.end; ordered = omega (arith, stop, starts, lt) },
        record { utf8 = w.utf8; start = w.start; end = cut.start; ordered = low_end },
      )
  back_cut from to end (Some part) w (stop, inr (starts, same)) =
      let P : ℕ → Type 0 = IsCharBoundary t in (
        record { start = subst P (sym starts) w.start; end = subst P (sym stop) w.end; ordered = omega (arith, stop, starts, w.ordered) },
        record { utf8 = w.utf8; start = w.start; end = subst P (sym same) w.end; ordered = omega (arith, w.ordered, same) },
      )

  -- the characters that pass stand where the bytes do
  same_ends : IsUtf8 t → (k : ℕ) → byte_ends p t k ≡ char_ends p t k
  same_ends utf8 k = option_cases (char_ends p t k)
      (λ none. option_cases (byte_ends p t k) (λ free. free ∙ sym none)
      (λ b is. let here = byte-is p t k b is in absurd (none-some (k + 1) (sym none ∙ ascii-some p low t utf8 k here.0 here.1))))
      (λ b is. let here = ascii-is p low t utf8 k b is in byte-some p t k here.0 here.1 ∙ ap Some (sym here.2) ∙ sym is)

module _ (e f : ℕ → Option ℕ) (to : ℕ) (same : (k : ℕ) → e k ≡ f k) where
  same_from : (skip i n : ℕ) → leftmost_from (λ k. end_within to (e k)) skip i n ≡ leftmost_from (λ k. end_within to (f k)) skip i n
  unfolding leftmost_from
  same_from skip i zero = refl
  same_from (suc skip) i (suc n) = same_from skip (i + 1) n
  same_from zero i (suc n) = grind (arith, same i, same_from 0 (i + 1) n, option_cases)

-- the parts of a text between characters of ASCII are those between their bytes
pub text_parts : (p : ℕ → Bool) → ((c : ℕ) → 128 ≤ c → p c ≡ false) → (t : List ℕ) → IsUtf8 t → marked_parts p t 0 (length t) ≡ split (char_ends p t) (length t)
text_parts p low t utf8 = ap (λ l. gaps 0 l (length t)) (same_from (byte_ends p t) (char_ends p t) (length t) (same_ends p low t utf8) 0 0 (length t + 1 - 0))
