-- Bytes that std reads as numbers.
use Rattle.std.proofs.Common.{◌≡◌, ℕ, ◌+◌, ◌-◌, ◌*◌, ◌/◌, List, length, if◌then◌else◌, slice_index, bit_or, refl, nat_le, nat_lt}
use Rattle.std.specs.Hash.FoldHasher.{read_short, read_u32, read_u64, shl}

pub read_u32-is : (bs : List ℕ) (i : ℕ) → read_u32 bs i ≡ slice_index bs i + slice_index bs (i + 1) * 256 + slice_index bs (i + 2) * 65536 + slice_index bs (i + 3) * 16777216
unfolding read_u32
read_u32-is bs i = refl

pub read_u64-is : (bs : List ℕ) (i : ℕ) → read_u64 bs i ≡ bit_or (read_u32 bs i) (shl (read_u32 bs (i + 4)) 32)
unfolding read_u64
read_u64-is bs i = refl

pub read_short-is : (bs : List ℕ) → read_short bs ≡ (if nat_le 4 (length bs) then bit_or (read_u32 bs 0) (shl (read_u32 bs (length bs - 4)) 32)
    else (if nat_lt 0 (length bs) then bit_or (bit_or (slice_index bs 0) (shl (slice_index bs (length bs / 2)) 8)) (shl (slice_index bs (length bs - 1)) 16) else 0))
unfolding read_short
read_short-is bs = refl

pub ruleset reads = (read_u32-is, read_u64-is, read_short-is)
