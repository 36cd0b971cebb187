-- A borrowed handle, as contracts see it.
use Rattle.std.specs.Prelude.{ℕ, List}
use Rattle.hip_raw.specs.declared.borrowed.Borrowed.{Borrowed}

-- the bytes that it shows
abbrev pub borrowed_bytes : Borrowed → List ℕ
borrowed_bytes b = b.bytes.now
