-- Lemmas on slices of slices.
use Rattle.std.proofs.Common.{◌≡◌, ◌∙◌, ℕ, ◌+◌, ◌-◌, ◌≤◌, Bool, true, false, nat_le, if◌then◌else◌, List, drop, take, length, length-drop, length-take-le, slice_range, Option, Some, None, MatchOption, Result, Ok, Err, refl, sym, ap, arith}
use Rattle.std.proofs.lemmas.Bool.{le-leb, le-ltb, leb-true}
use Rattle.std.proofs.lemmas.List.{drop-drop, drop-take, take-take}
use Rattle.std.specs.Range.Bound.{start_index, end_index}
use Rattle.std.specs.declared.ops.Bound.{Bound}
use Rattle.hip_bytes.specs.Kinds.{by_length, cut_kind}
use Rattle.hip_bytes.specs.Range.{range_fault}
use Rattle.hip_bytes.specs.declared.slice_error.SliceErrorKind.{SliceErrorKind}
use Rattle.hip_bytes.specs.declared.kind.Kind.{Kind}
use Rattle.hip_bytes.specs.declared.kind.Kind.TheVariants.{Inline, Borrowed, Allocated}
use Rattle.hip_bytes.specs.declared.kind.TheConstants.{INLINE_CAPACITY}

pub slice-of-slice : (xs : List ℕ) (start end from to : ℕ) → from ≤ to → to ≤ end - start
    → slice_range (slice_range xs start end) from to ≡ slice_range xs (start + from) (start + to)
slice-of-slice xs start end from to ordered within =
    ap (λ n. take (to - from) (drop from (take n (drop start xs)))) {x = end - start} {y = from + ((end - start) - from)} (omega arith)
    ∙ ap (take (to - from)) (drop-take from ((end - start) - from) (drop start xs))
    ∙ take-take (to - from) ((end - start) - from) (drop from (drop start xs)) (omega arith)
    ∙ ap (take (to - from)) (drop-drop from start xs)
    ∙ ap (λ n. take n (drop (start + from) xs)) {x = to - from} {y = (start + to) - (start + from)} (omega arith)

pub length-part : (xs : List ℕ) (start end : ℕ) → start ≤ end → end ≤ length xs → length (slice_range xs start end) ≡ end - start
length-part xs start end ordered within = length-take-le (end - start) (drop start xs) (omega (arith, length-drop start xs))

-- positions in order and within the length are a range
pub range-fits : (start end len : ℕ) → start ≤ end → end ≤ len → range_fault start end len ≡ None
range-fits start end len ordered within = rw (le-ltb len start (omega arith), le-ltb len end within, le-ltb end start ordered) refl

short-kind : (fits : Bool) (most len : ℕ) → len ≤ most → nat_le most INLINE_CAPACITY ≡ fits → cut_kind (if fits then Inline else Allocated) len ≡ by_length len
short-kind true most len within is = ap (λ b. if b then Inline else Allocated) (sym (le-leb len INLINE_CAPACITY (omega (arith, leb-true most INLINE_CAPACITY is, within))))
short-kind false most len within is = refl

-- the part of a part has the kind that it would have of the whole
pub kind-of-part : (kind : Kind) (most len : ℕ) → len ≤ most → cut_kind (cut_kind kind most) len ≡ cut_kind kind len
kind-of-part Inline most len within = refl
kind-of-part Borrowed most len within = refl
kind-of-part Allocated most len within = short-kind (nat_le most INLINE_CAPACITY) most len within refl

range-of : {K : Type 0} → Result (ℕ × ℕ) K → ℕ × ℕ
range-of (Ok range) = range
range-of (Err kind) = (0, 0)

-- an answer that is a range has no fault, and the ends that were asked for
pub found-ends : {K : Type 0} {start end a b : ℕ} (given : Result (ℕ × ℕ) K) (fault : Option K) → given ≡ Ok (start, end) → MatchOption fault (given ≡ Ok (a, b)) (λ kind. given ≡ Err kind)
    → (fault ≡ None) × (start ≡ a) × (end ≡ b)
unfolding range-of
found-ends given None is found = let pair = sym is ∙ found in (refl, ap (λ r. (range-of r).0) pair, ap (λ r. (range-of r).1) pair)
found-ends given (Some kind) is found = absurd (cc)

-- the bounds in which a range was found
abbrev pub Found : Bound ℕ → Bound ℕ → ℕ → ℕ → ℕ → Option SliceErrorKind → Type 0
Found low high len start end fault =
    let range : Result (ℕ × ℕ) SliceErrorKind = Ok (start, end) in
    MatchOption fault (range ≡ Ok (start_index low, end_index high len)) (λ kind. range ≡ Err kind)
