-- The cost of the pieces of a text together.
use Rattle.std.specs.Prelude.{◌≡◌, ℕ, ◌≤◌, Bool, true, false, List, length}
use Rattle.hip_bytes.specs.declared.kind.Kind.TheVariants.{Borrowed}
use Rattle.hip_cuts.specs.Piece.{IsLittle, parts_cost}
use Rattle.hip_match.specs.Pieces.{AreInOrder}
use Rattle.hip_text.specs.Handle.{Handle}

abbrev pub SharedCopyLittle : Type 0
SharedCopyLittle = (source : Handle) (ranges : List (ℕ × ℕ)) → IsLittle source (length ranges) (parts_cost true source ranges)

abbrev pub BorrowedCopyNothing : Type 0
BorrowedCopyNothing = (shares : Bool) (source : Handle) (ranges : List (ℕ × ℕ))
    → source.kind ≡ Borrowed → parts_cost shares source ranges ≡ 0

abbrev pub InOrderCopyOnce : Type 0
InOrderCopyOnce = (source : Handle) (ranges : List (ℕ × ℕ))
    → AreInOrder (length source.items) ranges → parts_cost false source ranges ≤ length source.items
