-- The answers of calls that write over the bytes, by where they lay.
use Rattle.std.proofs.Common.{◌≡◌, ◌∙◌, ℕ, ◌+◌, ◌-◌, ◌^◌, ◌<◌, ◌≤◌, Bool, true, false, List, length, drop, refl, sym, ap, subst, le_refl, take_all, arith, Option}
use Rattle.std.proofs.Math.Nat.{min-le_left}
use Rattle.std.proofs.lemmas.Bool.{false≢true, true≢false, Decides.nat_tests}
use Rattle.std.proofs.lemmas.List.{take-append-le}
use Rattle.std.specs.Prelude.{IfNone, IfSome, IsSome, OnSome}
use Rattle.std.specs.List.{refill}
use Rattle.hip_raw.specs.Held.{Held}
use Rattle.hip_raw.specs.Meter.{RisesAtLeast, RisesAtMost, count_from, times_copied}
use Rattle.hip_bytes.specs.Cost.{lent_count, write_cost, WriteNeedsMemory}
use Rattle.hip_bytes.specs.Handle.{Handle}
use Rattle.hip_bytes.specs.Kinds.{owned_kind, HasCapacity}
use Rattle.hip_bytes.specs.declared.kind.Kind.{Kind}
use Rattle.hip_bytes.specs.declared.kind.Kind.TheVariants.{Inline, Borrowed, Allocated}
use Rattle.hip_bytes.specs.declared.kind.TheConstants.{INLINE_CAPACITY}
use Rattle.hip_bytes.proofs.Pushes.{all_copied, is_long, is_short, owner_handle}

pub refill-whole : (xs ws : List ℕ) → length ws ≡ length xs → refill (length xs) xs ws ≡ ws
refill-whole xs ws same = take-append-le (length xs) ws (drop (length ws) xs) (omega arith) ∙ take_all (length xs) ws (omega arith)

-- the kind, the capacity and the cost of a write that leaves `new`
abbrev pub Rewrites : Bool → Handle → Handle → ℕ → ℕ → Type 0
Rewrites shares old new m m' =
    (new.kind ≡ owned_kind old.kind (length old.items)) × HasCapacity new.kind (length new.items) new.capacity × (shares ≡ false → old.kind ≡ Allocated → new.capacity ≡ old.capacity)
    × RisesAtMost m m' (write_cost shares old.kind (length old.items)) × RisesAtLeast m m' (lent_count old.kind (length old.items))

nothing_counted : (m : ℕ) → RisesAtLeast m m 0
nothing_counted m = omega (arith, min-le_left (m + 0) (2 ^ 128 - 1))

-- a meter that has counted just so many has counted as many at least
pub counted-exactly : (m m' n : ℕ) → m' ≡ count_from m n → RisesAtLeast m m' n
counted-exactly m m' n exact = omega (arith, exact)

pub in_handle : (shares : Bool) (xs new : List ℕ) (old : Handle) (m : ℕ) → record { kind = Inline; items = xs; capacity = INLINE_CAPACITY } ≡ old
    → Rewrites shares old (record { kind = Inline; items = new; capacity = INLINE_CAPACITY }) m m
in_handle shares xs new old m view =
    subst (λ h. Rewrites shares h (record { kind = Inline; items = new; capacity = INLINE_CAPACITY }) m m) view (refl, refl, λ sole own. absurd (cc), record { never_falls = le_refl m; at_most = omega arith }, nothing_counted m)

pub in_owner : (shares : Bool) (held held' : Held) (old : Handle) (m : ℕ) → owner_handle held ≡ old → length held'.items ≤ held'.capacity → held'.capacity ≡ held.capacity
    → Rewrites shares old (owner_handle held') m m
in_owner shares held held' old m view fits room =
    subst (λ h. Rewrites shares h (owner_handle held') m m) view (refl, fits, λ sole own. room, record { never_falls = le_refl m; at_most = omega arith }, nothing_counted m)

-- bytes that can't be written over in place
abbrev pub Apart : Bool → Kind → Type 0
Apart shares Inline = ⊥
Apart shares Borrowed = Unit {0}
Apart shares Allocated = shares ≡ true

pub copied_short : (shares : Bool) (old : Handle) (new : List ℕ) (m m' : ℕ) → old.kind ≡ Borrowed → length old.items ≤ INLINE_CAPACITY → RisesAtMost m m' (length old.items) → RisesAtLeast m m' (length old.items)
    → Rewrites shares old (record { kind = Inline; items = new; capacity = INLINE_CAPACITY }) m m'
copied_short shares old new m m' lent short counted copied = (
  sym (ap (λ k. owned_kind k (length old.items)) lent ∙ is_short (length old.items) short),
  refl,
  λ sole own. absurd (cc),
  record { never_falls = counted.never_falls; at_most = omega (arith, counted.at_most, ap (λ k. write_cost shares k (length old.items)) lent, all_copied shares (length old.items)) },
  subst (RisesAtLeast m m') (sym (ap (λ k. lent_count k (length old.items)) lent)) copied,
)

costs : (shares : Bool) (kind : Kind) (len : ℕ) → Apart shares kind → times_copied shares len ≡ write_cost shares kind len
costs shares Inline len apart = absurd apart
costs shares Borrowed len apart = refl
costs true Allocated len apart = refl
costs false Allocated len apart = absurd (false≢true apart)

counts : (kind : Kind) (len m m' : ℕ) → RisesAtLeast m m' len → RisesAtLeast m m' (lent_count kind len)
counts Inline len m m' copied = grind (arith, nat_tests)
counts Borrowed len m m' copied = copied
counts Allocated len m m' copied = grind (arith, nat_tests)

own_kind : (shares : Bool) (kind : Kind) (len : ℕ) → Apart shares kind → (kind ≡ Borrowed → INLINE_CAPACITY < len) → Allocated ≡ owned_kind kind len
own_kind shares Inline len apart long = absurd apart
own_kind shares Borrowed len apart long = sym (is_long len (long refl))
own_kind shares Allocated len apart long = refl

not_sole : {P : Type 0} (shares : Bool) (kind : Kind) → Apart shares kind → shares ≡ false → kind ≡ Allocated → P
not_sole shares Inline apart sole own = absurd apart
not_sole shares Borrowed apart sole own = absurd (cc)
not_sole shares Allocated apart sole own = absurd (true≢false (sym apart ∙ sole))

pub copied_long : (shares : Bool) (old new : Handle) (m m' : ℕ) → Apart shares old.kind → (old.kind ≡ Borrowed → INLINE_CAPACITY < length old.items)
    → new.kind ≡ Allocated → length new.items ≡ length old.items → length old.items ≤ new.capacity → RisesAtMost m m' (times_copied shares (length old.items))
    → RisesAtLeast m m' (length old.items) → Rewrites shares old new m m'
copied_long shares old new m m' apart long own size fits counted copied = (
  own ∙ own_kind shares old.kind (length old.items) apart long,
  subst (λ k. HasCapacity k (length new.items) new.capacity) (sym own) (omega arith),
  λ sole allocated. not_sole shares old.kind apart sole allocated,
  record { never_falls = counted.never_falls; at_most = omega (arith, counted.at_most, costs shares old.kind (length old.items) apart) },
  counts old.kind (length old.items) m m' copied,
)

pub may_fail : (shares : Bool) (kind : Kind) (len : ℕ) → Apart shares kind → (kind ≡ Borrowed → INLINE_CAPACITY < len) → WriteNeedsMemory shares kind len
may_fail shares Inline len apart long = apart
may_fail shares Borrowed len apart long = long refl
may_fail shares Allocated len apart long = apart

pub refused : (shares : Bool) (kind : Kind) (len m m' : ℕ) → Apart shares kind → RisesAtMost m m' (times_copied shares len) → RisesAtMost m m' (write_cost shares kind len)
refused shares kind len m m' apart counted = subst (RisesAtMost m m') (costs shares kind len apart) counted

-- a call that lends the bytes, where `P` holds of those before it, its answer, and those after it
abbrev pub Lends : {R : Type 0} → (List ℕ → R → List ℕ → Type 0) → Bool → Handle → Handle → Option R → Type 0
Lends P shares old new r =
    IfSome r (λ answer. P old.items answer new.items) × (length new.items ≡ length old.items) × (new.kind ≡ old.kind) × (new.capacity ≡ old.capacity)
    × (old.kind ≡ Inline → IsSome r) × OnSome r (old.kind ≡ Borrowed → ⊥) × (shares ≡ false → old.kind ≡ Allocated → IsSome r) × IfNone r (new ≡ old)
