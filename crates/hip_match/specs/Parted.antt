-- A text that another one parts, told by the bytes of what lies before it and behind it.
use Rattle.std.specs.Prelude.{◌≡◌, ℕ, List, ◌++◌, length, None}
use Rattle.hip_match.specs.Occurrence.{NoneStarts}
use Rattle.hip_match.specs.Texts.{text_ends}

-- the pattern occurs nowhere in the text
abbrev pub Lacks : List ℕ → List ℕ → Type 0
Lacks pattern text = (k : ℕ) → text_ends pattern text k ≡ None

-- the text is what lies before the pattern, the pattern, and what lies behind it; and the pattern starts nowhere before
pub record IsParted (pattern text front back : List ℕ) : Type 0 where
  pub joined : text ≡ front ++ (pattern ++ back)
  pub first : NoneStarts (text_ends pattern text) 0 (length front)
