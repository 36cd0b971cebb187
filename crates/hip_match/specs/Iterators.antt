-- Claims of an iterator, in the words in which its type tells of ranges.
use Rattle.std.specs.Prelude.{◌≡◌, ℕ, Option, List, IfSome}
use Rattle.hip_match.specs.Clones.{KeepsRanges}
use Rattle.hip_match.specs.Occurrence.{IsCut}
use Rattle.hip_match.specs.Ready.{IsBetween, IsBetweenBack}
use Rattle.hip_match.specs.declared.ranges.ByteRanges.{Ghosts as ByteGhosts}
use Rattle.hip_match.specs.declared.ranges.Ranges.{Ghosts}

-- the iterator i is ready, and gives the ranges l of the text t
pub record Gives {I : Type 0} (g : Ghosts I) (i : I) (t : List ℕ) (l : List (ℕ × ℕ)) : Type 0 where
  pub ready : g.ready i
  pub text : g.text i ≡ t
  pub rest : g.rest i ≡ l

-- like `Gives`, of ranges of bytes
pub record GivesBytes {I : Type 0} (g : ByteGhosts I) (i : I) (t : List ℕ) (l : List (ℕ × ℕ)) : Type 0 where
  pub ready : g.ready i
  pub bytes : g.bytes i ≡ t
  pub rest : g.rest i ≡ l

-- the iterator `copy` is ready where i is, and gives the same ranges of the same text
abbrev pub GivesAlike : {I : Type 0} → Ghosts I → I → I → Type 0
GivesAlike g i copy = KeepsRanges g.ready g.text g.rest i copy

-- the iterator i is ready, and its ranges lie one after another between two boundaries of its text
abbrev pub LiesBetween : {I : Type 0} → Ghosts I → I → ℕ → ℕ → Type 0
LiesBetween g i from to = g.ready i × IsBetween (g.text i) from (g.rest i) to

-- like `LiesBetween`, but of an iterator that lists its ranges from the back
abbrev pub LiesBetweenBack : {I : Type 0} → Ghosts I → I → ℕ → ℕ → Type 0
LiesBetweenBack g i from to = g.ready i × IsBetweenBack (g.text i) from (g.rest i) to

-- the list that is left changes as `how` tells, r is a cut of the text, and the iterator stays ready, of the same text
pub record Takes {I : Type 0} (g : Ghosts I) (how : List (ℕ × ℕ) → Option (ℕ × ℕ) → List (ℕ × ℕ) → Type 0)
    (old : I) (r : Option (ℕ × ℕ)) (new : I) : Type 0 where
  pub list : how (g.rest old) r (g.rest new)
  pub cut : IfSome r (IsCut (g.text old))
  pub text : g.text new ≡ g.text old
  pub ready : g.ready new
