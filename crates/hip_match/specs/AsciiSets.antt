-- Sets of characters of ASCII.
use Rattle.std.specs.Prelude.{ℕ, Bool}
use Rattle.hip_match.specs.Marks.{in_rows}
use Rattle.hip_match.specs.declared.ascii_set.AsciiSet.{AsciiSet}

-- the characters of a set
abbrev pub in_set : AsciiSet → ℕ → Bool
in_set set = in_rows set.rows
