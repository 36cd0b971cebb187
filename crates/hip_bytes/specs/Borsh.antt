-- Borsh's form of a list of bytes, and the answers of calls that write or read one. (The specification at borsh.io: a `u32` is four bytes,
-- the least first; a dynamic container is its length as a `u32` and then its items; a text's form is that of its bytes.)
use Rattle.std.specs.Prelude.{◌≡◌, ℕ, ◌+◌, ◌-◌, ◌^◌, ◌<◌, ◌≤◌, ◌⊎◌, List, [], ◌∷◌, ◌++◌, length, drop, Option, Some, Result, Ok, Err, codes, refl}
use Rattle.std.specs.Int.{w32, to_le_bytes, from_le_bytes}
use Rattle.std.specs.Io.KnownBytes.{Appends, Consumes, IsAtEnd, Keeps}
use Rattle.hip_raw.specs.Transfer.{one_more}
use Rattle.hip_bytes.specs.Handle.{Handle}
use Rattle.hip_bytes.specs.Kinds.{HoldsByLength}
use Rattle.hip_bytes.specs.declared.borsh_fault.BorshFault.{BorshFault}
use Rattle.hip_bytes.specs.declared.borsh_fault.BorshFault.TheVariants.{Memory, TooLong, Truncated, Io, NotUtf8}
use Rattle.hip_bytes.specs.declared.kind.TheConstants.{INLINE_CAPACITY}

-- the form of a list of fewer than 2^32 bytes
abbrev pub borsh_form : List ℕ → List ℕ
borsh_form items = to_le_bytes w32 (length items) ++ items

-- the length of the form that begins with these bytes: four, and as many as these four say
abbrev pub form_length : List ℕ → ℕ
form_length bytes = 4 + from_le_bytes w32 bytes

-- a beginning of a form that lacks a byte at least
abbrev pub IsUnfinished : List ℕ → Type 0
IsUnfinished bytes = length bytes < form_length bytes

-- a sink before and after a call that writes the form of a list, by its answer: the whole form went there, or, where a write failed or took
-- no byte, a beginning of it, or nothing, where the list is too long
abbrev pub BorshWrites : {T : Type 0} → List ℕ → Option (List ℕ) → Option (List ℕ) → Result T BorshFault → Type 0
BorshWrites items old new (Ok done) = (length items < 2 ^ 32) × Appends old new (borsh_form items)
BorshWrites items old new (Err TooLong) = (2 ^ 32 ≤ length items) × Keeps old new
BorshWrites items old new (Err Io) =
    (length items < 2 ^ 32) × (front : List ℕ) × (rest : List ℕ) × (borsh_form items ≡ front ++ rest) × (0 < length rest) × Appends old new front
BorshWrites items old new (Err Memory) = ⊥
BorshWrites items old new (Err Truncated) = ⊥
BorshWrites items old new (Err NotUtf8) = ⊥

-- a source before and after a call that reads a form, by its answer: just the form was taken; or all that there was, a form that lacks a
-- byte; or, where a read failed, such a beginning; or, where memory for more bytes than a handle itself holds was refused, a beginning or
-- the whole form
abbrev pub BorshReads : Option (List ℕ) → Option (List ℕ) → Result Handle BorshFault → Type 0
BorshReads old new (Ok handle) = (length handle.items < 2 ^ 32) × HoldsByLength handle handle.items × Consumes old new (borsh_form handle.items)
BorshReads old new (Err Truncated) = (taken : List ℕ) × Consumes old new taken × IsUnfinished taken × IsAtEnd new
BorshReads old new (Err Io) = (taken : List ℕ) × Consumes old new taken × IsUnfinished taken
BorshReads old new (Err Memory) =
    (taken : List ℕ) × Consumes old new taken × (length taken ≤ form_length taken) × (4 + INLINE_CAPACITY < form_length taken)
BorshReads old new (Err TooLong) = ⊥
BorshReads old new (Err NotUtf8) = ⊥

-- the number of reads that failed: Io tells of one that did, and of no other; any other answer tells that none did
abbrev pub CountsReads : {T : Type 0} → Result T BorshFault → ℕ → ℕ → Type 0
CountsReads (Ok done) old new = new ≡ old
CountsReads (Err Io) old new = new ≡ one_more old
CountsReads (Err Memory) old new = new ≡ old
CountsReads (Err TooLong) old new = new ≡ old
CountsReads (Err Truncated) old new = new ≡ old
CountsReads (Err NotUtf8) old new = new ≡ old

-- the number of writes that failed, like `CountsReads`; Io may also tell of a write that took no byte, as only a sink that is full does
abbrev pub CountsWrites : {T : Type 0} → Result T BorshFault → Type 0 → ℕ → ℕ → Type 0
CountsWrites (Err Io) Full old new = (new ≡ one_more old) ⊎ (Full × (new ≡ old))
CountsWrites (Ok done) Full old new = new ≡ old
CountsWrites (Err Memory) Full old new = new ≡ old
CountsWrites (Err TooLong) Full old new = new ≡ old
CountsWrites (Err Truncated) Full old new = new ≡ old
CountsWrites (Err NotUtf8) Full old new = new ≡ old

-- the form that was written of a list, behind bytes that the sink held and before other bytes, is read as that list, and those other bytes
-- are left
abbrev pub BorshRoundTrip : List ℕ → List ℕ → Type 0
BorshRoundTrip items follow =
    (old new : List ℕ) (left : Option (List ℕ)) (read : Handle) → BorshWrites {T = Unit {0}} items (Some old) (Some new) (Ok tt)
    → BorshReads (Some (drop (length old) new ++ follow)) left (Ok read) → (read.items ≡ items) × (left ≡ Some follow)

-- the form of `abc`
pub three_bytes : borsh_form (codes "abc") ≡ 3 ∷ 0 ∷ 0 ∷ 0 ∷ 97 ∷ 98 ∷ 99 ∷ []
three_bytes = refl

-- a length of four gigabytes with one byte behind it
pub far_from_whole : form_length (255 ∷ 255 ∷ 255 ∷ 255 ∷ 97 ∷ []) ≡ 4 + (2 ^ 32 - 1)
far_from_whole = refl
