-- Lists made of others (Rust's `[u8]::repeat`, `[[u8]]::concat` and `[[u8]]::join`).
use Rattle.std.specs.Prelude.{◌≡◌, ℕ, zero, suc, ◌+◌, ◌*◌, ◌<◌, Bool, true, List, [], ◌∷◌, if◌then◌else◌, ◌||◌, ◌==◌, MatchBool, Option, codes, refl}
use Rattle.std.specs.Iterator.{Drains, Yields}
use Rattle.std.specs.List.{join_by}
use Rattle.std.specs.Borrow.{Bor}
use Rattle.hip_raw.specs.Meter.{times_copied}
use Rattle.hip_bytes.specs.Cost.{clone_cost}
use Rattle.hip_bytes.specs.Kinds.{by_length}
use Rattle.hip_bytes.specs.declared.kind.Kind.{Kind}
use Rattle.hip_bytes.specs.declared.kind.Kind.TheVariants.{Inline, Borrowed, Allocated}
use Rattle.hip_bytes.specs.declared.kind.TheConstants.{INLINE_CAPACITY}

-- the bytes of a slice
abbrev pub bytes_of : Bor (List ℕ) → List ℕ
bytes_of slice = slice.now

-- the bytes of a byte
abbrev pub one_byte : ℕ → List ℕ
one_byte byte = byte ∷ []

-- the slices one behind another, with the separator between each two
abbrev pub joined : List ℕ → List (Bor (List ℕ)) → List ℕ
joined sep slices = join_by bytes_of sep slices

-- the separator before the slice at a position; nothing before the first
abbrev pub gap_at : ℕ → List ℕ → List ℕ
gap_at zero sep = []
gap_at (suc i) sep = sep

-- the iterator that the value becomes gives these items and then ends, and P holds of them
abbrev pub GivesAll : {I T A : Type 0} → (I → T → Type 0) → (T → Option A → T → Type 0) → I → (List A → Type 0) → Type 0
GivesAll {I} {T} {A} into steps value P = (it : T) × (xs : List A) × into value it × Drains steps it xs × P xs

-- like `GivesAll`, but the iterator may give more than these items
abbrev pub GivesFirst : {I T A : Type 0} → (I → T → Type 0) → (T → Option A → T → Type 0) → I → (List A → Type 0) → Type 0
GivesFirst {I} {T} {A} into steps value P = (it : T) × (xs : List A) × (later : T) × into value it × Yields steps it xs later × P xs

-- the greatest number of bytes that a join of a result of `len` bytes copies
abbrev pub join_cost : Bool → ℕ → ℕ
join_cost shares len = times_copied shares len + INLINE_CAPACITY

-- a repetition that is the value itself: of nothing, or once
abbrev pub is_plain : ℕ → ℕ → Bool
is_plain len n = (len == 0) || (n == 1)

-- the kind of `len` bytes of a kind, `n` times
abbrev pub repeated_kind : Kind → ℕ → ℕ → Kind
repeated_kind kind len n = if is_plain len n then kind else by_length (n * len)

abbrev pub repeat_cost : Bool → Kind → ℕ → ℕ → ℕ
repeat_cost shares kind len n = if is_plain len n then clone_cost shares kind len else times_copied shares (n * len) + INLINE_CAPACITY

-- `len` bytes of a kind, `n` times, may need memory
abbrev pub RepeatNeedsMemory : Kind → ℕ → ℕ → Type 0
RepeatNeedsMemory kind len n = MatchBool (is_plain len n) (kind ≡ Allocated) (INLINE_CAPACITY < n * len)

-- the words of a join, over slices of any address
pub three_joined : (a b c : Bor (List ℕ)) → a.now ≡ codes "ab" → b.now ≡ [] → c.now ≡ codes "c" → joined (codes "-") (a ∷ b ∷ c ∷ []) ≡ codes "ab--c"
three_joined a b c e f g = rw (e, f, g) refl

-- lent bytes once stay lent; two bytes twelve times are one more than the handle holds in itself
pub once : repeated_kind Borrowed 3 1 ≡ Borrowed
once = refl

pub twelve_times : (repeated_kind Inline 2 12 ≡ Allocated) × (repeat_cost true Inline 2 12 ≡ 47)
twelve_times = (refl, refl)
