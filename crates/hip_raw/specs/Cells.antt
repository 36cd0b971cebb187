-- The end of a loan of the first items of an inline list's array. No public clause cites this module.
use Rattle.std.specs.Prelude.{List, length}
use Rattle.std.specs.List.{refill}
use Rattle.std.specs.Borrow.{Lends, Fml, RattleType, MutBor, Array}
use Rattle.hip_raw.specs.contracts.inline.cells.Cells.{the_row}

module _ (T N : RattleType) (cells : MutBor (the_row T N).Denot) where
  -- once the borrow r ends, the array begins with what was written through r
  abbrev pub LendsFront : MutBor (List T.Denot) → Fml
  LendsFront r = Lends (the_row T N) (Array T 0) cells r (λ written. record { items = refill (length cells.now.items) cells.now.items written })
