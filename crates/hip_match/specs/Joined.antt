-- Pieces of a text, put together again: Rust's `[str]::join` and `[str]::concat`.
use Rattle.std.specs.Prelude.{ℕ, List, [], ◌∷◌, ◌++◌, map, slice_range}

-- the bytes of the text in each range
abbrev pub parts_at : List ℕ → List (ℕ × ℕ) → List (List ℕ)
parts_at text ranges = map (λ r. slice_range text r.0 r.1) ranges

-- the lists, one after another
abbrev pub together : List (List ℕ) → List ℕ
together [] = []
together (x ∷ xs) = x ++ together xs

-- the lists, with a separator between each two
abbrev pub rejoined : List ℕ → List (List ℕ) → List ℕ
rejoined sep [] = []
rejoined sep (x ∷ []) = x
rejoined sep (x ∷ y ∷ ys) = x ++ (sep ++ rejoined sep (y ∷ ys))
