-- The part of a list that a handle shows.
use Rattle.std.specs.Prelude.{◌≡◌, ℕ, List, [], ◌∷◌, take, drop, refl}

-- the `len` items of `xs` from position `start` on (Rust's `&xs[start..start + len]`)
abbrev pub window : List ℕ → ℕ → ℕ → List ℕ
window xs start len = take len (drop start xs)

pub window-example : window (10 ∷ 11 ∷ 12 ∷ 13 ∷ []) 1 2 ≡ 11 ∷ 12 ∷ []
window-example = refl
