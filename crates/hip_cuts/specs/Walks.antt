-- Claims of pieces at ranges of the caller's, in the words in which their type tells of a walk.
use Rattle.std.specs.Prelude.{◌≡◌, ℕ, List}
use Rattle.hip_text.specs.Handle.{Handle}
use Rattle.hip_cuts.specs.declared.walk.Walk.{Ghosts}

-- the pieces are ready, and these ranges of the source are still to come
pub record GoesOver {W : Type 0} (g : Ghosts W) (pieces : W) (source_is : Handle) (rest_is : List (ℕ × ℕ)) : Type 0 where
  pub ready : g.ready pieces
  pub source : (g.left pieces).source ≡ source_is
  pub rest : (g.left pieces).rest ≡ rest_is

-- the copy of pieces is ready where they are, and the same is left of it
pub record GoesAlike {W : Type 0} (g : Ghosts W) (pieces copy : W) : Type 0 where
  pub ready : g.ready pieces → g.ready copy
  pub left : g.left copy ≡ g.left pieces
