-- Where bytes that pass a test occur, in bytes that needn't be UTF-8: what Rust's documentation of `[u8]::split` says of a closure.
use Rattle.std.specs.Prelude.{ℕ, ◌+◌, ◌≤◌, ◌==◌, nat_lt, Bool, ◌&&◌, Option, Some, None, List, [], ◌∷◌, map, length, slice_index, if◌then◌else◌}
use Rattle.hip_match.specs.Pieces.{split_inclusive}
use Rattle.hip_match.specs.Runs.{line_of, without_return}

-- an occurrence is one byte that passes
abbrev pub byte_ends : (ℕ → Bool) → List ℕ → ℕ → Option ℕ
byte_ends passes bytes i = if nat_lt i (length bytes) && passes (slice_index bytes i) then Some (i + 1) else None

-- the range lies within the bytes
pub record IsWithin (bytes : List ℕ) (r : ℕ × ℕ) : Type 0 where
  pub ordered : r.0 ≤ r.1
  pub within : r.1 ≤ length bytes

-- like `lines` of a text: each line is ended by a line feed, which is 10, or by the end of the bytes, and loses that and one carriage
-- return before it
abbrev pub byte_lines : List ℕ → List (ℕ × ℕ)
byte_lines bytes = map (line_of bytes) (split_inclusive (byte_ends (λ b. b == 10) bytes) (length bytes))

-- ---- the lines by the parts between line feeds. Private functions alone cite these

-- where a line feed stands behind each part
abbrev pub ended_lines : List ℕ → List (ℕ × ℕ) → List (ℕ × ℕ)
ended_lines bytes parts = map (without_return bytes) parts

-- where the bytes end behind the last part, which is no line if it is empty
abbrev pub open_lines : List ℕ → List (ℕ × ℕ) → List (ℕ × ℕ)
open_lines bytes [] = []
open_lines bytes (r ∷ []) = if r.0 == r.1 then [] else r ∷ []
open_lines bytes (r ∷ s ∷ rs) = without_return bytes r ∷ open_lines bytes (s ∷ rs)

abbrev pub lines_left : List ℕ → Bool → List (ℕ × ℕ) → List (ℕ × ℕ)
lines_left bytes is_open parts = if is_open then open_lines bytes parts else ended_lines bytes parts
