-- Two bounds that are a range of a text, or none.
use Rattle.std.proofs.Common.{◌≡◌, ◌∙◌, ℕ, ◌-◌, ◌≤◌, Bool, List, length, slice_range, Option, Some, None, Result, Ok, Err, ap, ap₂, subst, sym, arith}
use Rattle.std.specs.Option.{MatchOption}
use Rattle.std.specs.Prelude.{is_none, if◌then◌else◌}
use Rattle.std.specs.Range.Bound.{start_index, end_index}
use Rattle.std.specs.declared.ops.Bound.{Bound}
use Rattle.hip_bytes.specs.Cost.{cut_cost}
use Rattle.hip_bytes.specs.Handle.{Handle}
use Rattle.hip_bytes.specs.Range.{slice_of}
use Rattle.hip_bytes.proofs.Slices.{found-ends, length-part}
use Rattle.hip_text.specs.Slice.{text_slice_fault, slice_cost}
use Rattle.hip_text.specs.declared.slice_error.SliceErrorKind.{SliceErrorKind}

-- the bounds are the range from `start` up to `end`
pub record IsRange (source : Handle) (low high : Bound ℕ) (start end : ℕ) : Type 0 where
  pub valid : text_slice_fault low high source.items ≡ None
  pub same : slice_range source.items start end ≡ slice_of low high source.items
  pub cost : (shares : Bool) → cut_cost shares source.kind (end - start) ≡ slice_cost shares source low high

pub is_range : (source : Handle) (low high : Bound ℕ) (text : List ℕ) (start end : ℕ) (given : Result (ℕ × ℕ) SliceErrorKind) → given ≡ Ok (start, end) → text ≡ source.items
    → MatchOption (text_slice_fault low high text) (given ≡ Ok (start_index low, end_index high (length text))) (λ kind. given ≡ Err kind)
    → start ≤ end → end ≤ length text → IsRange source low high start end
is_range source low high text start end given gave is range ordered within =
    let found = found-ends given (text_slice_fault low high text) gave range in
    let valid = subst (λ l. text_slice_fault low high l ≡ None) is found.0 in
    let same = ap₂ (slice_range source.items) found.1 (found.2 ∙ ap (λ l. end_index high (length l)) is) in
    record {
      valid = valid;
      same = same;
      cost = λ shares. ap (cut_cost shares source.kind) (sym (length-part source.items start end ordered (omega (arith, within, ap length is))) ∙ ap length same)
          ∙ ap (λ fault. if is_none fault then cut_cost shares source.kind (length (slice_of low high source.items)) else 0) (sym valid);
    }

shown : {K : Type 0} → Result (ℕ × ℕ) K → Option K
shown (Ok range) = None
shown (Err kind) = Some kind

refused : {K : Type 0} (range : ℕ × ℕ) {kind : K} (given : Result (ℕ × ℕ) K) (fault : Option K) → given ≡ Err kind → MatchOption fault (given ≡ Ok range) (λ told. given ≡ Err told) → fault ≡ Some kind
unfolding shown
refused pair given None is range = absurd (cc)
refused pair given (Some told) is range = ap shown (sym range ∙ is)

pub is_fault : (source : Handle) (low high : Bound ℕ) (text : List ℕ) (kind : SliceErrorKind) (given : Result (ℕ × ℕ) SliceErrorKind) → given ≡ Err kind → text ≡ source.items
    → MatchOption (text_slice_fault low high text) (given ≡ Ok (start_index low, end_index high (length text))) (λ told. given ≡ Err told)
    → text_slice_fault low high source.items ≡ Some kind
is_fault source low high text kind given gave is range = subst (λ l. text_slice_fault low high l ≡ Some kind) is (refused _ given (text_slice_fault low high text) gave range)
