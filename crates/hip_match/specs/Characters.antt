-- The characters of a text, and where one that belongs to a set occurs: the patterns `char`, `[char]` and `FnMut(char) -> bool` of Rust's `str`.
use Rattle.std.specs.Prelude.{◌≡◌, ℕ, ◌+◌, ◌<◌, Bool, ◌&&◌, Option, None, Some, List, [], ◌∷◌, drop, if◌then◌else◌}
use Rattle.std.specs.Option.{option_and_then}
use Rattle.std.specs.Char.{len_utf8}
use Rattle.std.specs.Str.{chars, IsCharBoundary}
use lib.Utf8.{scalar}
use Rattle.hip_match.specs.Occurrence.{is_boundary}

-- the first of these characters, the first of which starts at i, and where it ends
abbrev pub first_char : ℕ → List ℕ → Option (ℕ × ℕ)
first_char i [] = None
first_char i (c ∷ cs) = Some (c, i + len_utf8 c)

-- the character that starts at a boundary of the text, and where it ends
unfoldable pub char_at : List ℕ → ℕ → Option (ℕ × ℕ)
char_at text i = if is_boundary text i then first_char i (chars (drop i text)) else None

-- the end of a character that belongs
abbrev pub end_if : (ℕ → Bool) → ℕ × ℕ → Option ℕ
end_if belongs c = if scalar c.0 && belongs c.0 then Some c.1 else None

-- a set of characters occurs at each character that belongs to it
abbrev pub char_ends : (ℕ → Bool) → List ℕ → ℕ → Option ℕ
char_ends belongs text i = option_and_then (end_if belongs) (char_at text i)

-- the character r.0 stands before `to`, from the boundary r.1 on
pub record IsCharBefore (text : List ℕ) (to : ℕ) (r : ℕ × ℕ) : Type 0 where
  pub before : r.1 < to
  pub boundary : IsCharBoundary text r.1
  pub is : char_at text r.1 ≡ Some (r.0, to)
