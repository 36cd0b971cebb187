-- The occurrences that end at a place: each is the byte before it.
use Rattle.std.proofs.Common.{◌≡◌, ◌∙◌, ℕ, zero, suc, ◌+◌, ◌-◌, ◌<◌, ◌≤◌, true, List, Option, Some, None, length, refl, ap, sym, arith, ⊎_elim}
use Rattle.std.specs.Prelude.{slice_index}
use Rattle.std.specs.Str.{IsUtf8}
use Rattle.std.proofs.lemmas.Bool.{cases_lt, cases_Bool, cond-true, cond-false, eq-eqb, eqb-true, false≢true}
use Rattle.std.proofs.lemmas.Option.{none-some, same_Some}
use Rattle.hipstr.specs.Characters.{char_ends}
use Rattle.hipstr.specs.Occurrence.{start_among, start_of, ends_at}
use Rattle.own_pattern.specs.declared.table.TruthTable.{TruthTable}
use Rattle.own_pattern.specs.Table.{in_table}
use Rattle.own_pattern.proofs.Starts.{byte_no, byte_yes, ends_past}

-- ---- the start of the occurrence that ends at a place

ends_at-true : (o : Option ℕ) (j : ℕ) → ends_at o j ≡ true → o ≡ Some j
ends_at-true None j is = absurd (cc)
ends_at-true (Some b) j is = ap (λ x. Some x) (eqb-true b j is)

ends_at-some : (o : Option ℕ) (j : ℕ) → o ≡ Some j → ends_at o j ≡ true
ends_at-some o j is = ap (λ x. ends_at x j) is ∙ eq-eqb j j refl

module _ (e : ℕ → Option ℕ) (from j : ℕ) where
  start_among-none : (n : ℕ) → ((a : ℕ) → ¬ (e a ≡ Some j)) → start_among e from n j ≡ None
  unfolding start_among
  start_among-none zero none = refl
  start_among-none (suc n) none =
      ⊎_elim
      (λ hit. absurd (none (from + n) (ends_at-true _ j hit)))
      (λ miss. cond-false _ _ _ miss ∙ start_among-none n none)
      (cases_Bool (ends_at (e (from + n)) j))

  start_among-found : (n a : ℕ) → ((b : ℕ) → e b ≡ Some j → b ≡ a) → from ≤ a → a < from + n → e a ≡ Some j → start_among e from n j ≡ Some a
  unfolding start_among
  start_among-found zero a one low high is = absurd (omega arith)
  start_among-found (suc n) a one low high is =
      ⊎_elim
      (λ hit. cond-true _ _ _ hit ∙ ap (λ x. Some x) (one (from + n) (ends_at-true _ j hit)))
      (λ miss. ⊎_elim
      (λ (under : a < from + n). cond-false _ _ _ miss ∙ start_among-found n a one low under is)
      (λ (ge : from + n ≤ a). let same : a ≡ from + n = omega arith in absurd (false≢true (sym miss ∙ ends_at-some _ j (ap e (sym same) ∙ is))))
      (cases_lt a (from + n)))
      (cases_Bool (ends_at (e (from + n)) j))

module _ (table : TruthTable) (t : List ℕ) (utf8 : IsUtf8 t) where
  abbrev ends : ℕ → Option ℕ
  ends = char_ends (in_table table) t

  -- an occurrence is one byte
  pub one_byte : (a b : ℕ) → ends a ≡ Some b → b ≡ a + 1
  one_byte a b is =
      ⊎_elim
      (λ (lt : a < length t). ⊎_elim
      (λ yes. same_Some _ _ (sym is ∙ byte_yes table t utf8 a lt yes))
      (λ no. absurd (none-some b (sym (byte_no table t utf8 a lt no) ∙ is)))
      (cases_Bool (in_table table (slice_index t a))))
      (λ (ge : length t ≤ a). absurd (none-some b (sym (ends_past (in_table table) t a ge) ∙ is)))
      (cases_lt a (length t))

  -- where none starts at the place before `at`, what ends behind that place ends behind `at`
  pub step_back : (to at : ℕ) → 0 < at → ends (at - 1) ≡ None → ((a b : ℕ) → ends a ≡ Some b → at < b → to < b)
      → (a b : ℕ) → ends a ≡ Some b → at - 1 < b → to < b
  step_back to at some none last a b is past =
      let one = one_byte a b is in
      ⊎_elim
      (λ (lt : at < b). last a b is lt)
      (λ (ge : b ≤ at). let here : at - 1 ≡ a = omega (arith, one) in absurd (none-some b (sym none ∙ ap ends here ∙ is)))
      (cases_lt at b)

  -- at the start of the text none ends before
  pub none_before : (to at : ℕ) → at ≤ 0 → ((a b : ℕ) → ends a ≡ Some b → at < b → to < b) → (a b : ℕ) → ends a ≡ Some b → to < b
  none_before to at first last a b is = let one = one_byte a b is in last a b is (omega (arith, one))

  -- the start of what ends at a place: the place before it, if one starts there
  pub start_of_one : (at b to : ℕ) → to ≡ at + 1 → ends at ≡ Some b → start_of ends to ≡ Some at
  start_of_one at b to next is =
      let one = one_byte at b is in
      let same : b ≡ to = omega (arith, one) in
      start_among-found ends 0 to (to + 1) at (λ a last. let other = one_byte a to last in omega (arith, other)) (omega arith) (omega arith) (is ∙ ap (λ k. Some k) same)

  pub start_of_none : (at to : ℕ) → to ≡ at + 1 → ends at ≡ None → start_of ends to ≡ None
  start_of_none at to next none =
      start_among-none ends 0 to (to + 1)
      (λ a is. let one = one_byte a to is in let here : at ≡ a = omega (arith, one) in none-some to (sym none ∙ ap ends here ∙ is))

  pub start_of_zero : (to : ℕ) → ¬ (0 < to) → start_of ends to ≡ None
  start_of_zero to first = start_among-none ends 0 to (to + 1) (λ a is. let one = one_byte a to is in first (omega (arith, one)))

-- a step of a walk from the end
pub ruleset steps = (one_byte, step_back, none_before)

-- the occurrences that end at a place
pub ruleset ends_there = (start_of_one, start_of_none, start_of_zero)
