-- The end of a loan of a buffer's bytes.
use Rattle.std.specs.Prelude.{ℕ, List, length}
use Rattle.std.specs.List.{refill}
use Rattle.std.specs.Borrow.{Lends, Fml, MutBor, Array, u8}
use Rattle.hip_raw.specs.Held.{Held}
use Rattle.hip_raw.specs.contracts.buffer.Buffer.{the_row}

-- a list written over by another as far as that goes; its length and the capacity stay
abbrev pub written_over : Held → List ℕ → Held
written_over held bytes = record { items = refill (length held.items) held.items bytes; capacity = held.capacity }

-- once the borrow r ends, the list has the bytes that r shows last
abbrev pub LendsBuffer : MutBor Held → MutBor (List ℕ) → Fml
LendsBuffer lender r = Lends the_row (Array u8 0) lender r (written_over lender.now)
