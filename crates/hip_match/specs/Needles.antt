-- The bytes of a needle of one to four.
use Rattle.std.specs.Prelude.{ℕ, ◌+◌, List, [], ◌∷◌, take}
use Rattle.std.specs.Int.{to_le_bytes, w32}
use Rattle.hip_match.specs.declared.place_test.Needle.{Needle}
use Rattle.hip_match.specs.declared.place_test.Needle.TheVariants.{One, Two, Three, Four}

abbrev pub bytes_of : Needle → List ℕ
bytes_of (One a) = a ∷ []
bytes_of (Two a b) = a ∷ b ∷ []
bytes_of (Three a b c) = a ∷ b ∷ c ∷ []
bytes_of (Four a b c d) = a ∷ b ∷ c ∷ d ∷ []

-- the number of bytes behind the first
abbrev pub reach_of : Needle → ℕ
reach_of (One a) = 0
reach_of (Two a b) = 1
reach_of (Three a b c) = 2
reach_of (Four a b c d) = 3

-- the bytes of a needle that a word holds, the first the lowest
abbrev pub packed : ℕ → ℕ → List ℕ
packed word reach = take (reach + 1) (to_le_bytes w32 word)
