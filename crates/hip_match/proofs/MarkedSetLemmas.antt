-- Sets of characters that are found by the places where they start.
use Rattle.std.proofs.Common.{◌≡◌, ℕ, ◌+◌, ◌<◌, ◌≤◌, Bool, List, Option, Some, None, length, arith, option_map, ⊎_elim, slice_index, IsUtf8, IsCharBoundary}
use Rattle.std.proofs.lemmas.Bool.{cases_lt}
use Rattle.std.proofs.lemmas.Option.{none-some, same_Some}
use Rattle.memchr.specs.Find.{IsFirst, IsLast, Nowhere}
use Rattle.hip_match.specs.Marks.{Ahead, PassesAt}
use Rattle.hip_match.specs.MarkedSets.{AreFirstPlaces, AreStarts}
use Rattle.hip_match.specs.Occurrence.{EndsLast, GoesOnAt, IsLastMatch, IsNextMatch, NoneStarts, StartsFirst}
use Rattle.hip_match.specs.Characters.{char_ends}
use Rattle.hip_match.specs.CharLaws.{char_ends-one_char, char_ends-spans}
use Rattle.hip_match.proofs.OccurrenceLemmas.{option_cases}
use Rattle.hip_match.proofs.SetLemmas.{none_more, none_past}
use Rattle.hip_match.proofs.MarkLemmas.{ahead-skipped}

module _ (belongs : ℕ → Bool) (places : List ℕ → ℕ → Bool) (first : AreFirstPlaces belongs places) (t : List ℕ) (utf8 : IsUtf8 t) where
  pub no_start : (i j : ℕ) → Nowhere (PassesAt places t) i j → (k : ℕ) → i ≤ k → k < j → char_ends belongs t k ≡ None
  no_start i j none k lo hi = option_cases (char_ends belongs t k) (λ free. free) (λ b is. absurd (none k lo hi (first.leads t k b utf8 is)))

  -- none begins within a character
  pub past_char : (a b k next m : ℕ) → ((i : ℕ) → slice_index t i < 256) → char_ends belongs t a ≡ Some b → GoesOnAt (a, b) k → Ahead places t (a + 1) next m → Ahead places t k next m
  past_char a b k next m fits is goes h = grind (arith, char_ends-one_char belongs t a b utf8 is, char_ends-spans belongs t a b utf8 is, ahead-skipped places t (a + 1) next m h k, first.begins)

  pub starts_first : (from past a b : ℕ) → from ≤ past → NoneStarts (char_ends belongs t) from past → IsFirst (PassesAt places t) past (length t) (Some a) → char_ends belongs t a ≡ Some b
      → StartsFirst (char_ends belongs t) from (a, b)
  starts_first from past a b le none found is = record { after = omega (arith, found.0.low); occurs = is; first = λ k lo hi. grind (arith, cases_lt k past, no_start past a found.0.before k, none k) }

  pub none_up_to : (from past a : ℕ) → NoneStarts (char_ends belongs t) from past → IsFirst (PassesAt places t) past (length t) (Some a) → char_ends belongs t a ≡ None → NoneStarts (char_ends belongs t) from (a + 1)
  none_up_to from past a none found here = none_more (char_ends belongs t) from a (λ k lo hi. grind (arith, cases_lt k past, no_start past a found.0.before k, none k)) here

  pub none_left : (from past : ℕ) → NoneStarts (char_ends belongs t) from past → IsFirst (PassesAt places t) past (length t) None → (k : ℕ) → from ≤ k → char_ends belongs t k ≡ None
  none_left from past none found = none_past belongs t from (λ k lo hi. grind (arith, cases_lt k past, no_start past (length t) found k, none k))

  -- ---- from the end

  pub beyond-new : (to c d : ℕ) → char_ends belongs t c ≡ Some d → to ≤ c → to < d
  beyond-new to c d is le = let holds : c < d = (char_ends-one_char belongs t c d utf8 is).holds in omega arith

  module _ (to past : ℕ) (beyond : (c d : ℕ) → char_ends belongs t c ≡ Some d → past ≤ c → to < d) where
    -- an occurrence that starts behind the last place that passes ends beyond
    late : (a c d : ℕ) → Nowhere (PassesAt places t) (a + 1) past → char_ends belongs t c ≡ Some d → a < c → to < d
    late a c d none is lt = ⊎_elim (λ (near : c < past). absurd (none c (omega arith) near (first.leads t c d utf8 is))) (λ (far : past ≤ c). beyond c d is far) (cases_lt c past)

    pub ends_last : (a b : ℕ) → IsCharBoundary t to → past ≤ to → IsLast (PassesAt places t) 0 past (Some a) → char_ends belongs t a ≡ Some b → EndsLast (char_ends belongs t) to (a, b)
    ends_last a b cut le found is =
        let high = found.0.high in
        grind (arith, cases_lt, same_Some, char_ends-one_char belongs t, char_ends-spans belongs t a b utf8 is, late)

    pub beyond_it : (a : ℕ) → IsLast (PassesAt places t) 0 past (Some a) → char_ends belongs t a ≡ None → (c d : ℕ) → char_ends belongs t c ≡ Some d → a ≤ c → to < d
    beyond_it a found here c d is le = grind (arith, cases_lt a c, none-some, late a c d found.0.after is)

    pub none_before : IsLast (PassesAt places t) 0 past None → (c d : ℕ) → char_ends belongs t c ≡ Some d → to < d
    none_before found c d is = grind (arith, cases_lt c past, found c, first.leads t c d utf8 is, beyond c d is)

-- ---- characters of one width

module _ (belongs : ℕ → Bool) (width : ℕ) (places : List ℕ → ℕ → Bool) (starts : AreStarts belongs width places) (t : List ℕ) (utf8 : IsUtf8 t) where
  pub next_start : (from : ℕ) (r : Option ℕ) → IsFirst (PassesAt places t) from (length t) r → IsNextMatch (char_ends belongs t) from (option_map (λ k. (k, k + width)) r)
  next_start from None found = none_left belongs places starts.first t utf8 from from (λ k lo hi. absurd (omega arith)) found
  next_start from (Some a) found = starts_first belongs places starts.first t utf8 from from a (a + width) (omega arith) (λ k lo hi. absurd (omega arith)) found (starts.ends t a utf8 found.0.high found.1)

  pub past_start : (from a k next m : ℕ) → ((i : ℕ) → slice_index t i < 256) → IsFirst (PassesAt places t) from (length t) (Some a) → GoesOnAt (a, a + width) k → Ahead places t (a + 1) next m → Ahead places t k next m
  past_start from a k next m fits found = past_char belongs places starts.first t utf8 a (a + width) k next m fits (starts.ends t a utf8 found.0.high found.1)

  pub last_start : (to : ℕ) (r : Option ℕ) → IsCharBoundary t to → IsLast (PassesAt places t) 0 to r → IsLastMatch (char_ends belongs t) to (option_map (λ k. (k, k + width)) r)
  last_start to None cut found = none_before belongs places starts.first t utf8 to to (beyond-new belongs places starts.first t utf8 to) found
  last_start to (Some a) cut found = ends_last belongs places starts.first t utf8 to to (beyond-new belongs places starts.first t utf8 to) a (a + width) cut (omega arith) found (starts.ends t a utf8 (let high = found.0.high in omega (arith, cut.0)) found.1)
