-- A reader or writer that fails at one call, as clauses see it.
use Rattle.std.specs.Prelude.{ℕ}
use Rattle.hip_raw.specs.declared.fuse.Fuse.{Fuse}

-- the reader or writer that the fuse stands around
abbrev pub inner_of : {T : Type 0} → Fuse T → T
inner_of fuse = fuse.inner

-- the greatest number of bytes that a call moves
abbrev pub most_of : {T : Type 0} → Fuse T → ℕ
most_of fuse = fuse.most

-- the number of calls up to the one that fails, that one included; at 0 none fails
abbrev pub calls_before : {T : Type 0} → Fuse T → ℕ
calls_before fuse = fuse.left
