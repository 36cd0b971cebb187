-- The kind that a call gives its handle, by the kind and the length that there were, and the capacity of each kind.
use Rattle.std.specs.Prelude.{◌≡◌, ℕ, ◌≤◌, Bool, true, false, List, [], length, if◌then◌else◌, nat_le, refl}
use Rattle.hip_bytes.specs.Handle.{Handle}
use Rattle.hip_bytes.specs.declared.kind.Kind.{Kind}
use Rattle.hip_bytes.specs.declared.kind.Kind.TheVariants.{Inline, Borrowed, Allocated}
use Rattle.hip_bytes.specs.declared.kind.TheConstants.{INLINE_CAPACITY}

-- by length: inline where the bytes fit the handle, else allocated
abbrev pub by_length : ℕ → Kind
by_length len = if nat_le len INLINE_CAPACITY then Inline else Allocated

-- the kind of a part of a handle's bytes, and of a handle that lost bytes at its end
abbrev pub cut_kind : Kind → ℕ → Kind
cut_kind Inline len = Inline
cut_kind Borrowed len = Borrowed
cut_kind Allocated len = by_length len

-- the kind of a handle that doesn't depend on the value that lent its bytes
abbrev pub owned_kind : Kind → ℕ → Kind
owned_kind Inline len = Inline
owned_kind Borrowed len = by_length len
owned_kind Allocated len = Allocated

-- the kinds that a handle of a kind may have after a push that leaves it `len` bytes: what is allocated stays so, but where
-- owners are shared a short one may have become inline; any other goes by length
abbrev pub PushedKind : Bool → Kind → ℕ → Kind → Type 0
PushedKind shares Inline len new = new ≡ by_length len
PushedKind shares Borrowed len new = new ≡ by_length len
PushedKind shares Allocated len Allocated = Unit {0}
PushedKind true Allocated len Inline = len ≤ INLINE_CAPACITY
PushedKind false Allocated len Inline = ⊥
PushedKind shares Allocated len Borrowed = ⊥

-- the capacity that a handle of a kind has with `len` bytes
abbrev pub HasCapacity : Kind → ℕ → ℕ → Type 0
HasCapacity Inline len capacity = capacity ≡ INLINE_CAPACITY
HasCapacity Borrowed len capacity = capacity ≡ len
HasCapacity Allocated len capacity = len ≤ capacity

-- the capacity that a handle keeps when it loses bytes at its end: an owner stays as it is
abbrev pub kept_capacity : Kind → ℕ → ℕ → ℕ
kept_capacity Inline len capacity = INLINE_CAPACITY
kept_capacity Borrowed len capacity = len
kept_capacity Allocated len capacity = if nat_le len INLINE_CAPACITY then INLINE_CAPACITY else capacity

-- the handle holds these items in this kind
pub record Holds (handle : Handle) (kind : Kind) (items : List ℕ) : Type 0 where
  pub kind_is : handle.kind ≡ kind
  pub items_are : handle.items ≡ items
  pub capacity : HasCapacity kind (length items) handle.capacity

-- by length
abbrev pub HoldsByLength : Handle → List ℕ → Type 0
HoldsByLength handle items = Holds handle (by_length (length items)) items

-- no bytes, in the handle itself
abbrev pub IsEmptyInline : Handle → Type 0
IsEmptyInline handle = Holds handle Inline []

-- 23 bytes are inline, 24 are allocated
pub at_the_limit : by_length 23 ≡ Inline
at_the_limit = refl

pub past_the_limit : by_length 24 ≡ Allocated
past_the_limit = refl

-- a short part of borrowed bytes stays borrowed
pub borrowed_part : cut_kind Borrowed 3 ≡ Borrowed
borrowed_part = refl
