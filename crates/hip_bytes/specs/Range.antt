-- Ranges of `RangeBounds<usize>`, as Rust's documentation of `std::ops` has them, over whole numbers: no bound wraps.
use Rattle.std.specs.Prelude.{◌≡◌, ℕ, List, [], ◌∷◌, length, Option, Some, None, if◌then◌else◌, nat_lt, slice_range, refl}
use Rattle.std.specs.Range.Bound.{start_index, end_index}
use Rattle.std.specs.declared.ops.Bound.{Bound}
use Rattle.std.specs.declared.ops.Bound.TheVariants.{Included, Excluded, Unbounded}
use Rattle.hip_bytes.specs.declared.slice_error.SliceErrorKind.{SliceErrorKind}
use Rattle.hip_bytes.specs.declared.slice_error.SliceErrorKind.TheVariants.{StartGreaterThanEnd, StartOutOfBounds, EndOutOfBounds}

-- why the positions from `start` up to `end` are no range of a list of `len` items: the first test that fails
abbrev pub range_fault : ℕ → ℕ → ℕ → Option SliceErrorKind
range_fault start end len =
    if nat_lt len start then Some StartOutOfBounds
    else if nat_lt len end then Some EndOutOfBounds
    else if nat_lt end start then Some StartGreaterThanEnd
    else None

-- why two bounds are no range of a list of `len` items
abbrev pub slice_fault : Bound ℕ → Bound ℕ → ℕ → Option SliceErrorKind
slice_fault low high len = range_fault (start_index low) (end_index high len) len

-- the items between two bounds
abbrev pub slice_of : Bound ℕ → Bound ℕ → List ℕ → List ℕ
slice_of low high items = slice_range items (start_index low) (end_index high (length items))

-- `abc` by `4..2` and by `2..1`: the tests have an order
pub start_past_length : slice_fault (Included 4) (Excluded 2) 3 ≡ Some StartOutOfBounds
start_past_length = refl

pub start_past_end : slice_fault (Included 2) (Excluded 1) 3 ≡ Some StartGreaterThanEnd
start_past_end = refl

-- `abc` by `..=usize::MAX`: the end is 2^64, and not 0
pub greatest_end : slice_fault Unbounded (Included 18446744073709551615) 3 ≡ Some EndOutOfBounds
greatest_end = refl

-- `abc` by `1..=1` is `b`
pub one_item : slice_of (Included 1) (Included 1) (97 ∷ 98 ∷ 99 ∷ []) ≡ 98 ∷ []
one_item = refl
