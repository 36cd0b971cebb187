-- Lemmas on boundaries of a slice of a text.
use Rattle.std.proofs.Common.{◌≡◌, ◌∙◌, ℕ, ◌+◌, ◌-◌, ◌<◌, ◌≤◌, ◌⊎◌, inl, inr, List, length, drop, slice_index, slice_range, subst, arith}
use Rattle.std.proofs.lemmas.Bool.{cases_lt}
use Rattle.std.proofs.lemmas.List.{get_or-drop, get_or-take}
use Rattle.std.specs.Str.{IsCharBoundary}
use Rattle.hip_bytes.proofs.Slices.{length-part}

index-part : (text : List ℕ) (start end i : ℕ) → i < end - start → slice_index (slice_range text start end) i ≡ slice_index text (start + i)
index-part text start end i within = get_or-take (end - start) (drop start text) i 0 within ∙ get_or-drop start text i 0

-- a boundary of the slice is one of the text
pub boundary-of-part : (text : List ℕ) (start end i : ℕ) → start ≤ end → IsCharBoundary text end → IsCharBoundary (slice_range text start end) i → IsCharBoundary text (start + i)
boundary-of-part text start end i ordered at_end inside = by (cases_lt i (end - start)) where
  long : length (slice_range text start end) ≡ end - start
  long = length-part text start end ordered at_end.0

  by : (i < end - start) ⊎ (end - start ≤ i) → IsCharBoundary text (start + i)
  by (inl within) =
      let same = index-part text start end i within in
      (omega (arith, at_end.0, within), λ in_text high. omega (arith, same, inside.1 (omega (arith, long, within)) (omega (arith, same, high))))
  by (inr past) = subst (λ n. IsCharBoundary text n) {x = end} {y = start + i} (omega (arith, ordered, past, inside.0, long)) at_end

pub end-of-part : (text : List ℕ) (start end i : ℕ) → start ≤ end → IsCharBoundary text end → IsCharBoundary (slice_range text start end) i → i ≤ end - start
end-of-part text start end i ordered at_end inside = omega (arith, inside.0, length-part text start end ordered at_end.0)
