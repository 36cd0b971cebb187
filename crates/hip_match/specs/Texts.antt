-- Where a text occurs in another: the pattern `&str` of Rust's `str`, and the textbook's string matching.
use Rattle.std.specs.Prelude.{ℕ, ◌+◌, Bool, ◌&&◌, Option, None, Some, List, take, drop, length, if◌then◌else◌}
use Rattle.std.specs.Str.{bytes_eq}
use Rattle.hip_match.specs.Occurrence.{is_boundary}

-- whether the bytes of the text from i on are the pattern's
abbrev pub stands_at : List ℕ → List ℕ → ℕ → Bool
stands_at pattern text i = bytes_eq (take (length pattern) (drop i text)) pattern

-- a text occurs where its bytes stand between two boundaries, so an empty one at each boundary
unfoldable pub text_ends : List ℕ → List ℕ → ℕ → Option ℕ
text_ends pattern text i =
    if is_boundary text i && (is_boundary text (i + length pattern) && stands_at pattern text i) then Some (i + length pattern)
    else None
