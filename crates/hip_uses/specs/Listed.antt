-- The tokens of a text, a line each.
use Rattle.std.specs.Prelude.{◌≡◌, ℕ, ◌+◌, List, [], ◌∷◌, ◌++◌, codes, decimal, length, slice_range}
use Rattle.hip_uses.specs.Shown.{IsQuoted, class_name}
use Rattle.hip_uses.specs.Token.{IsClassRun}
use Rattle.hip_uses.specs.declared.tokens.Class.{Class}
use Rattle.hip_uses.specs.declared.tokens.Token.{Token}

-- a token as its line tells it
pub record Run : Type 0 where
  pub start : ℕ
  pub class : Class
  pub text : List ℕ

abbrev pub run_of : {B S P : Type 0} → Token B S P → Run
run_of token = record { start = token.start; class = token.class; text = token.text.items }

-- the longest run of one class from its start on, in a text
pub record IsRun (source : List ℕ) (run : Run) : Type 0 where
  pub part : run.text ≡ slice_range source run.start (run.start + length run.text)
  pub longest : IsClassRun source run.class run.start (run.start + length run.text)

-- the runs of a text from a place on, each where the one before it ends, and the last at the end of the text
abbrev pub AreRuns : List ℕ → ℕ → List Run → Type 0
AreRuns source from [] = from ≡ length source
AreRuns source from (run ∷ runs) = (run.start ≡ from) × IsRun source run × AreRuns source (from + length run.text) runs

-- where a run begins, its class, and its text between quotes, with one space between two
abbrev pub IsTokenLine : Run → List ℕ → Type 0
IsTokenLine run line =
    (shown : List ℕ) × IsQuoted run.text shown × (line ≡ decimal run.start ++ (codes " " ++ (class_name run.class ++ (codes " " ++ (shown ++ codes "\n")))))

-- a line of each of some items, one after another
abbrev pub PrintedAs : {A : Type 0} → (A → List ℕ → Type 0) → List A → List ℕ → Type 0
PrintedAs IsLine [] text = text ≡ []
PrintedAs IsLine (item ∷ items) text = (line rest : List ℕ) × IsLine item line × PrintedAs IsLine items rest × (text ≡ line ++ rest)

-- a line for each run of a text
abbrev pub AreTokenLines : List ℕ → List ℕ → Type 0
AreTokenLines source text = (runs : List Run) × AreRuns source 0 runs × PrintedAs IsTokenLine runs text
