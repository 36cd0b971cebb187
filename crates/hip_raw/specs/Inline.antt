-- The end of a loan of an inline list's bytes.
use Rattle.std.specs.Prelude.{ℕ, List, length}
use Rattle.std.specs.List.{refill}
use Rattle.std.specs.Borrow.{Lends, Fml, RattleType, MutBor, Array, u8}
use denote.Param.{value_of}
use Rattle.hip_raw.specs.contracts.inline.Inline.{the_row}
use Rattle.hip_raw.specs.declared.inline.length.Length.{Ghosts}

-- once the borrow r ends, the list `lender` has the bytes that r shows last; its length stays
abbrev pub LendsBytes : (N L : RattleType) → Ghosts L.Denot (value_of N) → MutBor (List ℕ) → MutBor (List ℕ) → Fml
LendsBytes N L G lender r = Lends (the_row N L G) (Array u8 0) lender r (refill (length lender.now) lender.now)
