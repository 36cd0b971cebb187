-- The numbers that a hasher of texts feeds the hasher below it.
use Rattle.std.specs.Prelude.{ℕ, ◌-◌, ◌*◌, ◌%◌, ◌^◌, bit_or, Bool, ◌&&◌, ◌==◌, List, [], ◌∷◌, length, if◌then◌else◌, nat_lt, slice_index, fold}
use Rattle.std.specs.Hash as feeding
use Rattle.std.specs.Hash.FoldHasher as folding

abbrev pub read_u32 : List ℕ → ℕ → ℕ
read_u32 = folding.read_u32

abbrev pub read_u64 : List ℕ → ℕ → ℕ
read_u64 = folding.read_u64

abbrev pub read_short : List ℕ → ℕ
read_short = folding.read_short

-- two numbers of 64 bits as one, the first of them lowest
unfoldable pub pair : ℕ → ℕ → ℕ
pair low high = bit_or ((high * 2 ^ 64) % 2 ^ 128) low

-- the end of a text, as Rust's `str` feeds it
abbrev pub is_end : List ℕ → Bool
is_end bytes = (length bytes == 1) && (slice_index bytes 0 == 0xff)

-- A text of more than 16 bytes is fed as it is, of more than 8 as a number of 16 bytes, a shorter one as one of 8; the end of a text isn't fed.
unfoldable pub writes : List ℕ → List (List ℕ)
writes bytes =
    let n = length bytes in
    if nat_lt 16 n then bytes ∷ []
    else (if nat_lt 8 n then feeding.u128 (pair (read_u64 bytes 0) (read_u64 bytes (n - 8)))
    else (if is_end bytes then [] else feeding.u64 (read_short bytes)))

unfoldable pub fed : {H : Type 0} → (H → List ℕ → H) → H → List ℕ → H
fed write hasher bytes = fold write hasher (writes bytes)
