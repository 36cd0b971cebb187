-- Facts by the answer of an append.
use Rattle.std.specs.Prelude.{⊤}
use Rattle.hip_raw.specs.declared.appended.Appended.{Appended}
use Rattle.hip_raw.specs.declared.appended.Appended.TheVariants.{Done, Shared, Memory}

-- `P` holds if the append was done
abbrev pub OnDone : Appended → Type 0 → Type 0
OnDone Done P = P
OnDone Shared P = ⊤
OnDone Memory P = ⊤

-- `P` holds if the append was refused because others share the bytes
abbrev pub OnShared : Appended → Type 0 → Type 0
OnShared Done P = ⊤
OnShared Shared P = P
OnShared Memory P = ⊤

-- `P` holds if the append was refused because memory was
abbrev pub OnMemory : Appended → Type 0 → Type 0
OnMemory Done P = ⊤
OnMemory Shared P = ⊤
OnMemory Memory P = P

-- `P` holds if the append was refused, for whichever reason
abbrev pub OnRefused : Appended → Type 0 → Type 0
OnRefused Done P = ⊤
OnRefused Shared P = P
OnRefused Memory P = P
