-- The runs outside of a set are the gaps between its characters, less the empty ones.
use Rattle.std.proofs.Common.{◌≡◌, ℕ, ◌<◌, ◌≤◌, ◌⊎◌, inl, inr, List, [], ◌∷◌, Bool, Option, Some, None, length, arith, ⊎_elim, IsUtf8, IsCharBoundary}
use Rattle.std.proofs.lemmas.Bool.{cases_lt}
use Rattle.std.proofs.lemmas.Option.{none-some, same_Some}
use Rattle.std.proofs.lemmas.Str.{IsCharBoundary-start, IsCharBoundary-end}
use Rattle.std.specs.Prelude.{⊤}
use Rattle.hip_match.specs.Occurrence.{IsCut, NoneStarts}
use Rattle.hip_match.specs.Characters.{char_ends}
use Rattle.hip_match.specs.CharLaws.{char_ends-spans, char_ends-one_char}
use Rattle.hip_match.specs.Leftmost.{IsListed, BeginsWithin, AllOccur, BeginInOrder, leftmost}
use Rattle.hip_match.specs.Pieces.{gaps}
use Rattle.hip_match.specs.Runs.{nonempty, runs_outside, IsRun, AllRuns, Rise, AreRuns}
use Rattle.hip_match.proofs.LawLemmas.{leftmost-is}
use Rattle.hip_match.proofs.PiecesLemmas.{nonempty-kept, nonempty-dropped}

none_or : (o : Option ℕ) → ((b : ℕ) → o ≡ Some b → ⊥) → o ≡ None
none_or o h = grind arith

-- a range first in a list, which stays if it holds something
kept : (P : List (ℕ × ℕ) → Type 0) (r : ℕ × ℕ) (rs : List (ℕ × ℕ)) → (r.0 < r.1 → P (r ∷ nonempty rs)) → (r.1 ≤ r.0 → P (nonempty rs)) → P (nonempty (r ∷ rs))
kept P r rs full empty = grind (arith, nonempty-kept, nonempty-dropped, cases_lt)

rise_from : (i j : ℕ) (l : List (ℕ × ℕ)) → i ≤ j → Rise j l → Rise i l
rise_from i j [] le rise = rise
rise_from i j (r ∷ rs) le rise = (omega (arith, rise.0), rise.1)

module _ (p : ℕ → Bool) (t : List ℕ) (utf8 : IsUtf8 t) where
  -- no range without a character of the set goes on over i
  abbrev Stop : ℕ → Type 0
  Stop i = (s : ℕ × ℕ) → IsCut t s → s.0 < i → i < s.1 → NoneStarts (char_ends p t) s.0 s.1 → ⊥

  stop_after : (a b : ℕ) → char_ends p t a ≡ Some b → Stop b
  stop_after a b is s cut lo hi free = grind (arith, char_ends-one_char, none-some)

  is_run : (i j : ℕ) → IsCharBoundary t i → IsCharBoundary t j → i < j → NoneStarts (char_ends p t) i j → Stop i → Stop j → IsRun p t (i, j)
  is_run i j start end lt free before after = grind arith

  -- matches one after another from i on
  abbrev Chain : ℕ → List (ℕ × ℕ) → Type 0
  Chain i [] = ⊤
  Chain i (m ∷ ms) = (i ≤ m.0) × (char_ends p t m.0 ≡ Some m.1) × Chain m.1 ms

  abbrev Covers : ℕ → List (ℕ × ℕ) → Type 0
  Covers i ms = (a b : ℕ) → char_ends p t a ≡ Some b → i ≤ a → IsListed a b ms

  chain_after : (ms : List (ℕ × ℕ)) (i a b : ℕ) → Chain i ms → IsListed a b ms → i ≤ a
  chain_after [] i a b chain listed = absurd listed
  chain_after (m ∷ ms) i a b chain listed =
      grind (arith, char_ends-one_char p t m.0 m.1 utf8 chain.1, chain_after ms m.1 a b chain.2)

  free_before : (i : ℕ) (m : ℕ × ℕ) (ms : List (ℕ × ℕ)) → Chain i (m ∷ ms) → Covers i (m ∷ ms) → NoneStarts (char_ends p t) i m.0
  free_before i m ms chain covers k lo hi = none_or _ (λ b is. grind (arith, char_ends-one_char p t m.0 m.1 utf8 chain.1, chain_after ms m.1 k b chain.2, covers k b is lo))

  covers_rest : (i : ℕ) (m : ℕ × ℕ) (ms : List (ℕ × ℕ)) → Chain i (m ∷ ms) → Covers i (m ∷ ms) → Covers m.1 ms
  covers_rest i m ms chain covers a b is past = grind (arith, char_ends-one_char)

  record Outcome (i : ℕ) (l : List (ℕ × ℕ)) : Type 0 where
    each : AllRuns p t l
    rise : Rise i l
    all : (r : ℕ × ℕ) → IsRun p t r → i ≤ r.0 → IsListed r.0 r.1 l

  -- a run lies before a match or behind it
  beside : (m r : ℕ × ℕ) → char_ends p t m.0 ≡ Some m.1 → IsRun p t r → (r.1 ≤ m.0) ⊎ (m.1 ≤ r.0)
  beside m r is run = grind (arith, char_ends-one_char, none-some)

  outcome : (ms : List (ℕ × ℕ)) (i : ℕ) → IsCharBoundary t i → Stop i → Chain i ms → Covers i ms → Outcome i (nonempty (gaps i ms (length t)))
  outcome [] i start before chain covers =
      let n = length t in
      let free : NoneStarts (char_ends p t) i n = λ k lo hi. none_or _ (λ b is. covers k b is lo) in
      kept (Outcome i) (i, n) []
      (λ lt. record {
        each = (is_run i n start (IsCharBoundary-end t) lt free before (λ s cut lo hi none. omega (arith, cut.end.0)), tt);
        rise = (omega arith, tt);
        all = λ r run le. inl (run.longest (i, n) (record { start = start; end = IsCharBoundary-end t; ordered = omega arith }) le run.cut.end.0 free);
      })
      (λ ge. record { each = tt; rise = tt; all = λ r run le. omega (arith, run.holds, run.cut.end.0) })
  outcome (m ∷ ms) i start before chain covers =
      let n = length t in
      let span = char_ends-spans p t m.0 m.1 utf8 chain.1 in
      let free = free_before i m ms chain covers in
      let rest = outcome ms m.1 span.end (stop_after m.0 m.1 chain.1) chain.2 (covers_rest i m ms chain covers) in
      kept (Outcome i) (i, m.0) (gaps m.1 ms n)
      (λ lt. record {
        each = (is_run i m.0 start span.start lt free before (λ s cut lo hi free. grind (arith, none-some)), rest.each);
        rise = (omega arith, rise_from m.0 m.1 _ span.ordered rest.rise);
        all = λ r run le. ⊎_elim (λ h. inl (run.longest (i, m.0) (record { start = start; end = span.start; ordered = omega arith }) le h free)) (λ h. inr (rest.all r run h)) (beside m r chain.1 run);
      })
      (λ ge. record { each = rest.each; rise = rise_from i m.1 _ (omega (arith, chain.0, span.ordered)) rest.rise; all = λ r run le. ⊎_elim (λ h. absurd (omega (arith, run.holds, h, chain.0))) (λ h. rest.all r run h) (beside m r chain.1 run) })

  chained : (ms : List (ℕ × ℕ)) (i : ℕ) → AllOccur (char_ends p t) ms → BeginInOrder i ms → Chain i ms
  chained [] i occur order = tt
  chained (m ∷ ms) i occur order = grind (arith, char_ends-one_char, chained ms m.1 occur.1)

  within : (ms : List (ℕ × ℕ)) (a b : ℕ) → AllOccur (char_ends p t) ms → char_ends p t a ≡ Some b → BeginsWithin a ms → IsListed a b ms
  within [] a b occur is h = h
  within (m ∷ ms) a b occur is h =
      grind (arith, same_Some, cases_lt m.0 a, char_ends-one_char p t m.0 m.1 utf8 occur.0, char_ends-spans p t a b utf8 is, within ms a b occur.1 is)

  pub are_runs : AreRuns p t (runs_outside p t)
  are_runs =
      let n = length t in
      let ms = leftmost (char_ends p t) n in
      let h = leftmost-is (char_ends p t) n (λ a b is. let span = char_ends-spans p t a b utf8 is in (span.ordered, span.end.0)) in
      let out = outcome ms 0 (IsCharBoundary-start t utf8) (λ s cut lo hi none. omega arith) (chained ms 0 h.occur h.in_order)
      (λ a b is le. ⊎_elim (λ r. r) (within ms a b h.occur is) (h.no_other a b is le)) in
      record { each = out.each; in_order = out.rise; all = λ r run. out.all r run (omega arith) }
