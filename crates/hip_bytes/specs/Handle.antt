-- A handle, as clauses see it. Bytes are a list of numbers below 256 (Rust's `[u8]`).
use Rattle.std.specs.Prelude.{ℕ, List}
use Rattle.hip_bytes.specs.declared.kind.Kind.{Kind}

-- a handle: where its bytes lie, the bytes, and how many it can hold with no new memory
pub record Handle : Type 0 where
  pub kind : Kind
  pub items : List ℕ
  pub capacity : ℕ
