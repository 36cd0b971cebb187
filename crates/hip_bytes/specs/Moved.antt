-- How the parts of a form are moved. No public clause cites this module.
use Rattle.std.specs.Prelude.{◌≡◌, ℕ, ◌<◌, ◌⊎◌, List, ◌++◌, length, Option, Result, Ok, Err}
use Rattle.std.specs.Io.KnownBytes.{Appends, Consumes, IsAtEnd}
use Rattle.hip_raw.specs.Transfer.{one_more}
use Rattle.hip_bytes.specs.declared.borsh_fault.BorshFault.{BorshFault}
use Rattle.hip_bytes.specs.declared.borsh_fault.BorshFault.TheVariants.{Memory, TooLong, Truncated, Io, NotUtf8}

-- bytes were written, or only a front of them
abbrev pub MovesOut : {T E : Type 0} → List ℕ → Option (List ℕ) → Option (List ℕ) → Result T E → Type 0
MovesOut bytes old new (Ok done) = Appends old new bytes
MovesOut bytes old new (Err fault) = (front : List ℕ) × (rest : List ℕ) × (bytes ≡ front ++ rest) × (0 < length rest) × Appends old new front

-- a write that failed was counted, or took no byte
abbrev pub CountsOut : {T E : Type 0} → Result T E → Type 0 → ℕ → ℕ → Type 0
CountsOut (Ok done) Full old new = new ≡ old
CountsOut (Err fault) Full old new = (new ≡ one_more old) ⊎ (Full × (new ≡ old))

-- these `len` bytes were read; or fewer, where the source ended, a read failed or memory was refused
abbrev pub MovesIn : {T : Type 0} → (T → List ℕ) → ℕ → Option (List ℕ) → Option (List ℕ) → Result T BorshFault → Type 0
MovesIn shown len old new (Ok made) = (length (shown made) ≡ len) × Consumes old new (shown made)
MovesIn shown len old new (Err Truncated) = (taken : List ℕ) × Consumes old new taken × (length taken < len) × IsAtEnd new
MovesIn shown len old new (Err Io) = (taken : List ℕ) × Consumes old new taken × (length taken < len)
MovesIn shown len old new (Err Memory) = (taken : List ℕ) × Consumes old new taken × (length taken < len)
MovesIn shown len old new (Err TooLong) = ⊥
MovesIn shown len old new (Err NotUtf8) = ⊥
