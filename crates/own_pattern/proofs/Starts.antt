-- Where a set of characters of ASCII occurs, byte by byte: no byte of another character is one of ASCII.
use Rattle.std.proofs.Common.{◌≡◌, ◌∙◌, ℕ, ◌+◌, ◌<◌, ◌≤◌, ◌&&◌, Bool, true, false, List, Some, None, length, drop, replicate, get_or, ap, sym, arith, ⊎_elim, add-zero, get_or-drop}
use Rattle.std.specs.Prelude.{slice_index}
use Rattle.std.specs.Char.{is_ascii, len_utf8}
use Rattle.std.specs.Str.{IsUtf8}
use Rattle.std.proofs.lemmas.Bool.Decides.{nat_tests}
use Rattle.std.proofs.lemmas.Bool.{cases_lt, cases_Bool, false≢true}
use Rattle.std.proofs.lemmas.List.{get_or-replicate}
use Rattle.std.proofs.lemmas.Option.{same_Some}
use Rattle.std.proofs.lemmas.Str.{byte_from_char, IsCharBoundary-before_ascii}
use Rattle.hipstr.specs.CharLaws.{is_boundary-true, is_boundary-is, starts_char, char_at-ascii, char_at-end, char_at-off, char_ends-no, char_ends-none, char_ends-yes}
use Rattle.hipstr.specs.Characters.{char_ends}
use Rattle.hipstr.specs.Occurrence.{NoneStarts, is_boundary}
use Rattle.own_pattern.specs.declared.table.TruthTable.{TruthTable}
use Rattle.own_pattern.specs.Table.{in_table}

-- a table has no character beyond ASCII
past_table : (table : TruthTable) (c : ℕ) → 128 ≤ c → in_table table c ≡ false
past_table table c high = let past : is_ascii c ≡ false = grind (arith, nat_tests) in ap (λ b. b && get_or table.has c false) past

-- an empty table has none
pub empty_table : (c : ℕ) → in_table (record { has = replicate 128 false }) c ≡ false
empty_table c = ⊎_elim
    (λ (lt : c < 128). let none = get_or-replicate 128 c false false lt in grind (arith, none, nat_tests))
    (λ (ge : 128 ≤ c). past_table (record { has = replicate 128 false }) c ge)
    (cases_lt c 128)

-- nothing occurs behind the last character
pub ends_past : (p : ℕ → Bool) (t : List ℕ) (k : ℕ) → length t ≤ k → char_ends p t k ≡ None
ends_past p t k ge = char_ends-none p t k (char_at-end t k ge)

pub none_past : (p : ℕ → Bool) (t : List ℕ) (from end : ℕ) → length t ≤ end → NoneStarts (char_ends p t) from end → (k : ℕ) → from ≤ k → char_ends p t k ≡ None
none_past p t from end ge none k lo =
    ⊎_elim (λ (lt : k < end). none k lo lt) (λ (past : end ≤ k). ends_past p t k (omega arith)) (cases_lt k end)

module _ (table : TruthTable) (t : List ℕ) (utf8 : IsUtf8 t) (k : ℕ) (lt : k < length t) where
  -- nothing occurs at a byte that isn't of the set
  pub byte_no : in_table table (slice_index t k) ≡ false → char_ends (in_table table) t k ≡ None
  byte_no fails =
      ⊎_elim
      (λ (under : slice_index t k < 128).
      let cut = IsCharBoundary-before_ascii t k lt under in
      char_ends-no (in_table table) t k (slice_index t k) (k + 1) (char_at-ascii t k utf8 cut lt under) fails)
      (λ (high : 128 ≤ slice_index t k). ⊎_elim
      (λ yes.
      let found = starts_char t k utf8 (is_boundary-is t k yes) lt in
      let c = found.0 in
      let past : 128 ≤ c = ⊎_elim (λ (below : c < 128). absurd (omega (arith, byte_from_char (drop k t) _ c found.1.split below, get_or-drop k t 0 0, ap (λ n. slice_index t n) (add-zero k)))) (λ (h : 128 ≤ c). h) (cases_lt c 128) in
      char_ends-no (in_table table) t k c _ found.1.at (past_table table c past))
      (λ off. char_ends-none (in_table table) t k (char_at-off t k (λ cut. false≢true (sym off ∙ is_boundary-true t k cut))))
      (cases_Bool (is_boundary t k)))
      (cases_lt (slice_index t k) 128)

  -- the set occurs at a byte that is
  pub byte_yes : in_table table (slice_index t k) ≡ true → char_ends (in_table table) t k ≡ Some (k + 1)
  byte_yes is =
      let byte = slice_index t k in
      let under : byte < 128 = ⊎_elim (λ (below : byte < 128). below) (λ (high : 128 ≤ byte). absurd (false≢true (sym (past_table table byte high) ∙ is))) (cases_lt byte 128) in
      let cut = IsCharBoundary-before_ascii t k lt under in
      let found = starts_char t k utf8 cut lt in
      let pair : (found.0, k + len_utf8 found.0) ≡ (byte, k + 1) = same_Some _ _ (sym found.1.at ∙ char_at-ascii t k utf8 cut lt under) in
      char_ends-yes (in_table table) t k found.0 found.1 (ap (λ (c : ℕ × ℕ). in_table table c.0) pair ∙ is) ∙ ap (λ (c : ℕ × ℕ). Some c.1) pair

-- the occurrences at a place
pub ruleset starts = (byte_no, byte_yes, ends_past)
