-- Clones, by where the bytes lie.
use Rattle.std.proofs.Common.{◌≡◌, ◌∙◌, ℕ, ◌+◌, ◌-◌, ◌^◌, ◌≤◌, Bool, List, length, slice_range, Result, Ok, Err, refl, sym, ap, subst, take_all, arith}
use Rattle.std.proofs.Math.Nat.{min-eq_left, min-le_left}
use Rattle.std.specs.Prelude.{IsErr}
use Rattle.hip_raw.specs.Held.{Held}
use Rattle.hip_raw.specs.Meter.{RisesAtLeast, RisesAtMost, count_from, unless_shared}
use Rattle.hip_bytes.specs.Cost.{clone_cost}
use Rattle.hip_bytes.specs.Handle.{Handle}
use Rattle.hip_bytes.specs.Kinds.{Holds}
use Rattle.hip_bytes.specs.Made.{CloneAnswers}
use Rattle.hip_bytes.specs.declared.kind.Kind.TheVariants.{Inline, Borrowed}
use Rattle.hip_bytes.specs.declared.kind.TheConstants.{INLINE_CAPACITY}
use Rattle.hip_bytes.proofs.Pushes.{owner_handle}

abbrev pub Clones : Bool → Handle → Handle → ℕ → ℕ → Type 0
Clones shares old new m m' =
    Holds new old.kind old.items × RisesAtMost m m' (clone_cost shares old.kind (length old.items)) × RisesAtLeast m m' (clone_cost shares old.kind (length old.items))

pub in_handle : (shares : Bool) (xs new : List ℕ) (old : Handle) (m m' : ℕ) → record { kind = Inline; items = xs; capacity = INLINE_CAPACITY } ≡ old → new ≡ xs
    → length xs ≤ INLINE_CAPACITY → RisesAtMost m m' (length xs) → m' ≡ count_from m (length xs) → Clones shares old (record { kind = Inline; items = new; capacity = INLINE_CAPACITY }) m m'
in_handle shares xs new old m m' view is short counted exact =
    subst (λ h. Clones shares h (record { kind = Inline; items = new; capacity = INLINE_CAPACITY }) m m') view (
      record { kind_is = refl; items_are = is; capacity = refl },
      record { never_falls = counted.never_falls; at_most = omega (arith, counted.at_most) },
      subst (RisesAtLeast m m') (sym (min-eq_left short)) (omega (arith, exact)),
    )

pub lent : (shares : Bool) (xs : List ℕ) (old : Handle) (m : ℕ) → record { kind = Borrowed; items = xs; capacity = length xs } ≡ old
    → Clones shares old (record { kind = Borrowed; items = xs; capacity = length xs }) m m
lent shares xs old m view =
    subst (λ h. Clones shares h (record { kind = Borrowed; items = xs; capacity = length xs }) m m) view (
      record { kind_is = refl; items_are = refl; capacity = refl },
      record { never_falls = omega arith; at_most = omega arith },
      omega (arith, min-le_left (m + 0) (2 ^ 128 - 1)),
    )

all_of : (xs : List ℕ) (n : ℕ) → n ≡ length xs → slice_range xs 0 n ≡ xs
all_of xs n all = take_all (n - 0) xs (omega arith)

owner_cost : (shares : Bool) (len n m m' : ℕ) → n ≡ len → RisesAtMost m m' (unless_shared shares (n - 0)) → RisesAtMost m m' (unless_shared shares len)
owner_cost shares len n m m' all counted =
    let same : n - 0 ≡ len = omega arith in
    subst (λ k. RisesAtMost m m' (unless_shared shares k)) same counted

owner_count : (shares : Bool) (len n m m' : ℕ) → n ≡ len → RisesAtLeast m m' (unless_shared shares (n - 0)) → RisesAtLeast m m' (unless_shared shares len)
owner_count shares len n m m' all copied =
    let same : n - 0 ≡ len = omega arith in
    subst (λ k. RisesAtLeast m m' (unless_shared shares k)) same copied

module _ (shares : Bool) (held : Held) (old : Handle) (n m m' : ℕ) (view : owner_handle held ≡ old) (all : n ≡ length held.items) (counted : RisesAtMost m m' (unless_shared shares (n - 0))) where
  pub in_owner : (held' : Held) → held'.items ≡ slice_range held.items 0 n → length held'.items ≤ held'.capacity → RisesAtLeast m m' (unless_shared shares (n - 0)) → Clones shares old (owner_handle held') m m'
  in_owner held' is fits copied =
      let same = is ∙ all_of held.items n all in
      subst (λ h. Clones shares h (owner_handle held') m m') view (
        record { kind_is = refl; items_are = same; capacity = subst (λ xs. length xs ≤ held'.capacity) same fits },
        owner_cost shares (length held.items) n m m' all counted,
        owner_count shares (length held.items) n m m' all copied,
      )

  pub refused : {E : Type 0} (r : Result Handle E) → IsErr r → CloneAnswers old r × RisesAtMost m m' (clone_cost shares old.kind (length old.items))
  refused (Ok copy) err = absurd (cc)
  refused (Err error) err =
      (ap (λ (h : Handle). h.kind) (sym view), subst (λ h. RisesAtMost m m' (clone_cost shares h.kind (length h.items))) view (owner_cost shares (length held.items) n m m' all counted))
