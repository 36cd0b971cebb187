-- The lines of a text, put together again: what the documentation of `str::lines` says of their ends.
use Rattle.std.specs.Prelude.{◌≡◌, ℕ, ◌<◌, ◌⊎◌, List, [], ◌∷◌, ◌++◌, length, slice_index}

-- a line ends with a carriage return, which is 13, and a line feed, which is 10; with a line feed, where it has no carriage return at its
-- end; or with the text, where it holds something
abbrev pub EndsLine : List ℕ → List ℕ → List ℕ → Type 0
EndsLine line end rest =
    (end ≡ 13 ∷ 10 ∷ [])
    ⊎ (((end ≡ 10 ∷ []) × ((front : List ℕ) → line ≡ front ++ (13 ∷ []) → ⊥)) ⊎ ((end ≡ []) × (rest ≡ []) × (0 < length line)))

-- the lines, each with its end, are the text; none holds a line feed
abbrev pub AreLines : List (List ℕ) → List ℕ → Type 0
AreLines [] text = text ≡ []
AreLines (line ∷ lines) text =
    (end rest : List ℕ) × (text ≡ line ++ (end ++ rest)) × EndsLine line end rest
    × ((k : ℕ) → k < length line → slice_index line k ≡ 10 → ⊥) × AreLines lines rest
