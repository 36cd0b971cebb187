-- The lines of a script (docs/PROGRAM.md, "Lines"): each ends at a line feed, which the last may lack, and a carriage return before that is
-- none of its bytes.
use Rattle.std.specs.Prelude.{◌≡◌, ℕ, ◌==◌, ◌&&◌, Bool, false, List, [], ◌∷◌, codes, if◌then◌else◌, refl}

-- a byte at the front of the first of these lines
abbrev pub onto : ℕ → List (List ℕ) → List (List ℕ)
onto b [] = (b ∷ []) ∷ []
onto b (line ∷ more) = (b ∷ line) ∷ more

abbrev pub begins_with : ℕ → List ℕ → Bool
begins_with b [] = false
begins_with b (x ∷ xs) = x == b

-- a line feed (10) ends a line, a carriage return (13) before one is dropped, and what stands behind the last line feed is a line if it is
-- anything
unfoldable pub lines : List ℕ → List (List ℕ)
lines [] = []
lines (b ∷ bs) =
    if b == 10 then [] ∷ lines bs
    else if b == 13 && begins_with 10 bs then lines bs
    else onto b (lines bs)

-- a line without the carriage return at its end. Only private functions cite it
unfoldable pub without_return : List ℕ → List ℕ
without_return [] = []
without_return (b ∷ []) = if b == 13 then [] else b ∷ []
without_return (b ∷ c ∷ cs) = b ∷ without_return (c ∷ cs)

-- an empty line counts as one, the last may lack its end, and only one carriage return goes
pub lines-example : lines (codes "a\r\n\nb\r\r\nc") ≡ codes "a" ∷ [] ∷ codes "b\r" ∷ codes "c" ∷ []
unfolding lines
lines-example = refl

pub last_return-stays : lines (codes "a\n\r") ≡ codes "a" ∷ codes "\r" ∷ []
unfolding lines
last_return-stays = refl
