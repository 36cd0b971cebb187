-- What a writer holds after a print, which may have failed.
use Rattle.std.specs.Prelude.{◌≡◌, ℕ, List, ◌++◌, Option, Result, Ok, Err}
use Rattle.std.specs.Io.KnownBytes.{Appends}

-- a front of the text was added, and nothing else
pub record AppendsFront (old new : Option (List ℕ)) (text : List ℕ) : Type 0 where
  pub front : List ℕ
  pub rest : List ℕ
  pub all : front ++ rest ≡ text
  pub written : Appends old new front

-- the text was added, or a front of it where a write failed
abbrev pub Prints : {E : Type 0} → Option (List ℕ) → Option (List ℕ) → List ℕ → Result (Unit {0}) E → Type 0
Prints old new text (Ok done) = Appends old new text
Prints old new text (Err error) = AppendsFront old new text
