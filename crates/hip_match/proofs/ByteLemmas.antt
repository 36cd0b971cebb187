-- Trims of bytes, and the first and the last of them that pass a test.
use Rattle.std.proofs.Common.{◌≡◌, ◌∙◌, ℕ, ◌+◌, ◌<◌, ◌≤◌, Bool, true, false, List, Option, None, Some, length, slice_index, ap, arith, option_map, refl, sym, ◌-◌}
use Rattle.std.proofs.lemmas.Bool.{false≢true}
use Rattle.memchr.specs.Find.{IsFirst, IsLast, Passes}
use Rattle.hip_match.specs.Bytes.{byte_ends}
use Rattle.hip_match.specs.Trims.{IsSequence, IsSequenceBack, TrimsBack, TrimsFront, cut_at_first, rsplit_once, split_once}
use Rattle.hip_match.proofs.GapLemmas.{byte-is, byte-some, last-match, next-match, one_start, quiet-ahead, quiet-behind, sorted}
use Rattle.hip_match.proofs.LeftmostLemmas.{leftmost_between-none, leftmost_between-some}
use Rattle.hip_match.proofs.RightmostLemmas.{rightmost_between-none, rightmost_between-some}
use Rattle.hip_match.proofs.TrimLemmas.{TrimsBack-stuck, TrimsFront-stuck, sequence_back_more, sequence_more}

-- the ranges before and behind the byte at a place of n bytes
abbrev pub beside : ℕ → ℕ → (ℕ × ℕ) × (ℕ × ℕ)
beside n at = ((0, at), (at + 1, n))

module _ (p : ℕ → Bool) (t : List ℕ) where
  abbrev e : ℕ → Option ℕ
  e = byte_ends p t

  pub once : (r : Option ℕ) → IsFirst (Passes p t) 0 (length t) r → option_map (beside (length t)) r ≡ split_once e (length t)
  once None found = ap (λ l. cut_at_first l (length t)) (sym (leftmost_between-none e 0 (length t) (quiet-ahead p t 0 found)))
  once (Some at) found =
      let next = next-match p t 0 (Some at) found at refl in
      let high = found.0.high in
      ap (λ l. cut_at_first l (length t)) (sym (leftmost_between-some e 0 (length t) at (at + 1) (at + 1) next (omega arith) (omega arith) (omega arith) (omega arith) (omega arith) (λ k lo mid hi. absurd (omega arith))))

  pub once_back : (r : Option ℕ) → IsLast (Passes p t) 0 (length t) r → option_map (beside (length t)) r ≡ rsplit_once e (length t)
  once_back None found = ap (λ l. cut_at_first l (length t)) (sym (rightmost_between-none e 0 (length t) (sorted p t) (one_start p t) (quiet-behind p t (length t) found)))
  once_back (Some at) found =
      let last = last-match p t (length t) at found (omega arith) in
      ap (λ l. cut_at_first l (length t)) (sym (rightmost_between-some e 0 (length t) (sorted p t) (one_start p t) at (at + 1) last (omega arith) at (omega arith) (omega arith) (λ k m is lo hi lt. absurd (omega arith))))

  -- the white space goes on
  pub front_more : (at : ℕ) → IsSequence e 0 at → at < length t → p (slice_index t at) ≡ true → IsSequence e 0 (at + 1)
  front_more at front lt is = sequence_more e 0 at (at + 1) front (byte-some p t at lt is) (omega arith)

  pub back_more : (at : ℕ) → IsSequenceBack e (at + 1) (length t) → at < length t → p (slice_index t at) ≡ true → IsSequenceBack e at (length t)
  back_more at back lt is = sequence_back_more e at (at + 1) (length t) back (byte-some p t at lt is) (omega arith)

  -- it ends
  pub front_end : (at : ℕ) → IsSequence e 0 at → (at < length t → p (slice_index t at) ≡ false) → TrimsFront e at
  front_end at front fails = TrimsFront-stuck e at front (λ b is.
      let here = byte-is p t at b is in absurd (false≢true (sym (fails here.0) ∙ here.1)))

  pub back_end : (from to : ℕ) → from ≤ to → IsSequenceBack e to (length t) → (from < to → p (slice_index t (to - 1)) ≡ false) → TrimsBack e from (length t) to
  back_end from to le back fails = TrimsBack-stuck e from (length t) to (one_start p t) le back (λ a is low.
      let here = byte-is p t a to is in
      let last : a ≡ to - 1 = omega (arith, here.2) in
      absurd (false≢true (sym (fails (omega (arith, here.2))) ∙ ap (λ k. p (slice_index t k)) (sym last) ∙ here.1)))
