-- A sink that writes into a vector, as clauses see it.
use Rattle.std.specs.Prelude.{ℕ, List, []}

-- the bytes written, and how many writes failed
pub record Sink : Type 0 where
  pub items : List ℕ
  pub failures : ℕ

-- nothing was written, and nothing failed
abbrev pub unwritten : Sink
unwritten = record { items = []; failures = 0 }
