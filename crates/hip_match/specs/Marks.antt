-- Which places of a text pass a test, as the bits of a number. Only private functions cite it.
use Rattle.std.specs.Prelude.{◌≡◌, ℕ, ◌+◌, ◌-◌, ◌/◌, ◌%◌, ◌<◌, ◌≤◌, ◌⊎◌, ◌==◌, ◌&&◌, nat_lt, nat_le, Bool, true, not, Option, Some, None, List, [], ◌∷◌, length, slice_index, bit_and}
use Rattle.std.specs.Int.{bit_at}
use Rattle.memchr.specs.Find.{Nowhere}
use Rattle.hip_match.specs.Bytes.{byte_ends}
use Rattle.hip_match.specs.Leftmost.{leftmost_between}
use Rattle.hip_match.specs.Pieces.{gaps}

-- ---- tests

-- the row of a byte, told by its low four bits, has the column of its high four
abbrev pub has_nibbles : List ℕ → List ℕ → ℕ → Bool
has_nibbles rows columns byte = not (bit_and (slice_index rows (bit_and byte 15)) (slice_index columns (byte / 16)) == 0)

-- a character of ASCII whose row, told by its low four bits, has the bit of its high three
abbrev pub in_rows : List ℕ → ℕ → Bool
in_rows rows c = nat_lt c 128 && bit_at (slice_index rows (c % 16)) (c / 16) == 1

-- the place k of a text passes the test
abbrev pub PassesAt : (List ℕ → ℕ → Bool) → List ℕ → ℕ → Type 0
PassesAt test text k = test text k ≡ true

-- the byte at a place passes
abbrev pub by_byte : (ℕ → Bool) → List ℕ → ℕ → Bool
by_byte passes text k = passes (slice_index text k)

-- the bytes of a needle stand at a place
abbrev pub stands : List ℕ → List ℕ → ℕ → Bool
stands [] text k = nat_le k (length text)
stands (b ∷ bs) text k = slice_index text k == b && stands bs text (k + 1)

-- ---- marks

-- the set bits of a number are the places from `from` up to `to` that pass: bit k is of the place that lies as far before `end` as k
-- lies before 64
pub record AreMarks (test : List ℕ → ℕ → Bool) (text : List ℕ) (from to end bits : ℕ) : Type 0 where
  pub told : (k : ℕ) → k < 64 → bit_at bits k ≡ 1 → (from + 64 ≤ end + k) × (end + k < to + 64) × PassesAt test text (end + k - 64)
  pub marked : (p : ℕ) → from ≤ p → p < to → PassesAt test text p → (end ≤ p + 64) × (p < end) × (bit_at bits (p + 64 - end) ≡ 1)

-- the marks that are left from `from` on, of the 64 places before `next`
pub record Ahead (test : List ℕ → ℕ → Bool) (text : List ℕ) (from next bits : ℕ) : Type 0 where
  pub within : next ≤ length text
  pub beyond : Nowhere (PassesAt test text) next from
  pub marks : AreMarks test text from next next bits

-- the marks that are left before `to`, of the 64 places from `start` on
pub record Behind (test : List ℕ → ℕ → Bool) (text : List ℕ) (to start bits : ℕ) : Type 0 where
  pub within : start ≤ length text
  pub beyond : Nowhere (PassesAt test text) to start
  pub marks : AreMarks test text start to (start + 64) bits

-- the parts from `from` up to `to` between the bytes that pass
abbrev pub marked_parts : (ℕ → Bool) → List ℕ → ℕ → ℕ → List (ℕ × ℕ)
marked_parts passes bytes from to = gaps from (leftmost_between (byte_ends passes bytes) from to) to

-- the part that is taken from the front of a window: it ends before a byte that passes, behind which the window goes on at `next`, or with
-- the window
abbrev pub IsFrontPart : (ℕ → Bool) → List ℕ → ℕ → ℕ → Option (ℕ × ℕ) → ℕ → Type 0
IsFrontPart passes bytes from to None next = next ≡ from
IsFrontPart passes bytes from to (Some part) next =
    (part.0 ≡ from) × (((from ≤ part.1) × (part.1 < to) × (passes (slice_index bytes part.1) ≡ true) × (next ≡ part.1 + 1)) ⊎ ((part.1 ≡ to) × (next ≡ from)))

-- like `IsFrontPart`, from the back: the part starts behind a byte that passes, at which the window now ends
abbrev pub IsBackPart : (ℕ → Bool) → List ℕ → ℕ → ℕ → Option (ℕ × ℕ) → ℕ → Type 0
IsBackPart passes bytes from to None end = end ≡ to
IsBackPart passes bytes from to (Some part) end =
    (part.1 ≡ to) × (((from ≤ end) × (end < to) × (passes (slice_index bytes end) ≡ true) × (part.0 ≡ end + 1)) ⊎ ((part.0 ≡ from) × (end ≡ to)))
