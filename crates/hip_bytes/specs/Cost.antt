-- The greatest number of bytes that a call copies, and where it may need memory, by the kind and the length that there are. `shares` says
-- whether owners are shared.
use Rattle.std.specs.Prelude.{◌≡◌, ℕ, ◌+◌, ◌*◌, ◌<◌, ◌≤◌, min, Bool, true, false, length, if◌then◌else◌, nat_le, ◌⊎◌, refl}
use Rattle.hip_raw.specs.Meter.{RisesAtLeast, pot, unless_shared, times_copied}
use Rattle.hip_bytes.specs.Handle.{Handle}
use Rattle.hip_bytes.specs.declared.kind.Kind.{Kind}
use Rattle.hip_bytes.specs.declared.kind.Kind.TheVariants.{Inline, Borrowed, Allocated}
use Rattle.hip_bytes.specs.declared.kind.TheConstants.{INLINE_CAPACITY}

-- a clone of `len` bytes, of which the handle itself holds no more than it has room for
abbrev pub clone_cost : Bool → Kind → ℕ → ℕ
clone_cost shares Inline len = min len INLINE_CAPACITY
clone_cost shares Borrowed len = 0
clone_cost shares Allocated len = unless_shared shares len

-- the least number of bytes that a write, or a call that makes a value own its bytes, copies: those that are borrowed
abbrev pub lent_count : Kind → ℕ → ℕ
lent_count Inline len = 0
lent_count Borrowed len = len
lent_count Allocated len = 0

-- a part of `len` bytes: none from borrowed, and on a shared owner none past what a handle holds in itself
abbrev pub cut_cost : Bool → Kind → ℕ → ℕ
cut_cost shares Inline len = min len INLINE_CAPACITY
cut_cost shares Borrowed len = 0
cut_cost shares Allocated len = if nat_le len INLINE_CAPACITY then len else unless_shared shares len

-- a meter that stood at `before` stands at `after`: it has counted the part's bytes, but those that the part shares with its source
abbrev pub PartCounts : Bool → Handle → Handle → ℕ → ℕ → Type 0
PartCounts shares source part before after = RisesAtLeast before after (cut_cost shares source.kind (length part.items))

-- bytes that are taken over in a vector
abbrev pub taken_cost : Bool → ℕ → ℕ
taken_cost shares len = if nat_le len INLINE_CAPACITY then len else unless_shared shares len

-- a push of `added` bytes on `len`; one of nothing copies none
abbrev pub push_cost : Bool → ℕ → ℕ → ℕ
push_cost shares len added = if nat_le added 0 then 0 else times_copied shares (len + added)

-- a value that writes `added` bytes behind `len`: they are gathered, then pushed
abbrev pub written_cost : Bool → ℕ → ℕ → ℕ
written_cost shares len added = added + INLINE_CAPACITY + push_cost shares len added

-- items that an iterator gives, of `added` bytes, behind `len`: a handle is made of them, and pushed
abbrev pub extend_cost : Bool → ℕ → ℕ → ℕ
extend_cost shares len added = times_copied shares added + INLINE_CAPACITY + push_cost shares len added

-- a handle that loses bytes at its end
abbrev pub shortened_cost : Kind → ℕ
shortened_cost Inline = 0
shortened_cost Borrowed = 0
shortened_cost Allocated = INLINE_CAPACITY

-- a handle that gives room back
abbrev pub shrink_cost : Bool → Kind → ℕ → ℕ
shrink_cost shares Inline len = 0
shrink_cost shares Borrowed len = 0
shrink_cost shares Allocated len = times_copied shares len

-- bytes that are made the handle's own, where another value lends them
abbrev pub owned_cost : Bool → Kind → ℕ → ℕ
owned_cost shares Inline len = 0
owned_cost shares Borrowed len = times_copied shares len
owned_cost shares Allocated len = 0

-- bytes that are written over: what is lent or may be shared is copied first
abbrev pub write_cost : Bool → Kind → ℕ → ℕ
write_cost shares Inline len = 0
write_cost shares Borrowed len = times_copied shares len
write_cost true Allocated len = len
write_cost false Allocated len = 0

-- like `pot` of hip_raw, of a handle: bytes that are inline or borrowed have nothing that grows
abbrev pub pot_of : Kind → ℕ → ℕ → ℕ
pot_of Inline len capacity = 0
pot_of Borrowed len capacity = 0
pot_of Allocated len capacity = pot len capacity

abbrev pub handle_pot : Handle → ℕ
handle_pot handle = pot_of handle.kind (length handle.items) handle.capacity

-- a push of `added` bytes on an owner that isn't shared, for which the meter goes from `before` to `after`: what it copies, and the
-- pot that it leaves, are paid by the pot that there was and three times the addition
abbrev pub PushIsPaid : Bool → Handle → Handle → ℕ → ℕ → ℕ → Type 0
PushIsPaid shares old new added before after = shares ≡ false → old.kind ≡ Allocated → after + handle_pot new ≤ before + handle_pot old + 3 * added

-- a part of `len` bytes may need memory
abbrev pub CutNeedsMemory : Kind → ℕ → Type 0
CutNeedsMemory kind len = (kind ≡ Allocated) × (INLINE_CAPACITY < len)

-- `len` bytes put together on a handle of some capacity may need memory: on an owner that isn't shared where they pass it
abbrev pub GrowthNeedsMemory : Bool → Kind → ℕ → ℕ → Type 0
GrowthNeedsMemory shares Inline capacity len = INLINE_CAPACITY < len
GrowthNeedsMemory shares Borrowed capacity len = INLINE_CAPACITY < len
GrowthNeedsMemory shares Allocated capacity len = shares ≡ false → capacity < len

-- a push of `added` bytes on `len` may need memory where the bytes together may; one of nothing doesn't
abbrev pub PushNeedsMemory : Bool → Kind → ℕ → ℕ → ℕ → Type 0
PushNeedsMemory shares kind capacity len added = (0 < added) × GrowthNeedsMemory shares kind capacity (len + added)

-- items that an iterator gives, of `added` bytes, may need memory where a handle of them may, or the push
abbrev pub ExtendNeedsMemory : Bool → Handle → ℕ → Type 0
ExtendNeedsMemory shares handle added = (INLINE_CAPACITY < added) ⊎ PushNeedsMemory shares handle.kind handle.capacity (length handle.items) added

-- bytes that are made the handle's own may need memory
abbrev pub OwnNeedsMemory : Kind → ℕ → Type 0
OwnNeedsMemory kind len = (kind ≡ Borrowed) × (INLINE_CAPACITY < len)

-- bytes that are written over may need memory
abbrev pub WriteNeedsMemory : Bool → Kind → ℕ → Type 0
WriteNeedsMemory shares Inline len = ⊥
WriteNeedsMemory shares Borrowed len = INLINE_CAPACITY < len
WriteNeedsMemory shares Allocated len = shares ≡ true

-- a copy of the bytes with the same kind, but of lent ones by length, may need memory
abbrev pub CopyNeedsMemory : Kind → ℕ → Type 0
CopyNeedsMemory Inline len = ⊥
CopyNeedsMemory Borrowed len = INLINE_CAPACITY < len
CopyNeedsMemory Allocated len = Unit {0}

-- a part of 500 allocated bytes is free where owners are shared, and copied where not
pub shared_part : cut_cost true Allocated 500 ≡ 0
shared_part = refl

pub unshared_part : cut_cost false Allocated 500 ≡ 500
unshared_part = refl
