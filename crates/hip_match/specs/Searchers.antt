-- What a walk keeps of the places of a set's characters, or of a text. Only private functions and the patterns' own ghosts cite it.
use Rattle.std.specs.Prelude.{◌≡◌, ℕ, ◌+◌, ◌-◌, ◌<◌, ◌==◌, Bool, Option, List, length, min, take, drop, IfSome, MatchOption}
use Rattle.hip_match.specs.Marks.{Ahead, Behind, stands}
use Rattle.hip_match.specs.MarkedSets.{AreStarts}
use Rattle.hip_match.specs.Needles.{bytes_of, reach_of}
use Rattle.hip_match.specs.declared.marks.Marks.{Marks}
use Rattle.hip_match.specs.declared.place_test.Needle.{Needle}
use Rattle.hip_match.specs.declared.texts.Part.{Part}
use Rattle.hip_match.specs.declared.texts.TextSearcher.{TextSearcher}

-- the marks, if the characters are found by any, are of a test that finds them, and are left from a place on
abbrev pub AreAhead : {T : Type 0} → ((List ℕ → ℕ → Bool) → Type 0) → (T → List ℕ → ℕ → Bool) → Option (Marks T) → List ℕ → ℕ → Type 0
AreAhead finds places searcher text from =
    IfSome searcher (λ marks. finds (places marks.test) × Ahead (places marks.test) text from marks.front.next marks.front.bits)

-- like `AreAhead`, but the marks are left before a place
abbrev pub AreBehind : {T : Type 0} → ((List ℕ → ℕ → Bool) → Type 0) → (T → List ℕ → ℕ → Bool) → Option (Marks T) → List ℕ → ℕ → Type 0
AreBehind finds places searcher text to =
    IfSome searcher (λ marks. finds (places marks.test) × Behind (places marks.test) text to marks.back.start marks.back.bits)

-- the marks of a needle that finds a character are left from a place on
abbrev pub CharAhead : ℕ → Marks Needle → List ℕ → ℕ → Type 0
CharAhead c marks text from =
    AreStarts (λ d. d == c) (reach_of marks.test + 1) (stands (bytes_of marks.test)) × Ahead (stands (bytes_of marks.test)) text from marks.front.next marks.front.bits

-- like `CharAhead`, but before a place
abbrev pub CharBehind : ℕ → Marks Needle → List ℕ → ℕ → Type 0
CharBehind c marks text to =
    AreStarts (λ d. d == c) (reach_of marks.test + 1) (stands (bytes_of marks.test)) × Behind (stands (bytes_of marks.test)) text to marks.back.start marks.back.bits

-- the part of a text has its first four bytes, or all, behind those of its lead
abbrev pub IsPart : List ℕ → Part → Type 0
IsPart needle part = (part.lead < length needle) × (bytes_of part.needle ≡ take 4 (drop part.lead needle))

-- a text's searcher finds it from a place on, by marks of a part of it
abbrev pub FindsAhead : List ℕ → TextSearcher → List ℕ → ℕ → Type 0
FindsAhead needle s text from =
    MatchOption s.first (length needle ≡ 0) (λ part. IsPart needle part × Ahead (stands (bytes_of part.needle)) text (min (length text) (from + part.lead)) s.front.next s.front.bits)

-- like `FindsAhead`, but what ends at or before a place
abbrev pub FindsBehind : List ℕ → TextSearcher → List ℕ → ℕ → Type 0
FindsBehind needle s text to =
    MatchOption s.last (length needle ≡ 0) (λ part. IsPart needle part × Behind (stands (bytes_of part.needle)) text (to - (length needle - 1 - part.lead)) s.back.start s.back.bits)
