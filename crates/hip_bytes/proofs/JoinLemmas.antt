-- The answers and the costs of joins.
use Rattle.std.proofs.Common.{◌≡◌, ℕ, ◌*◌, ◌^◌, ◌<◌, ◌≤◌, Bool, true, false, List, length, Result, Ok, Err, sym, subst, arith}
use Rattle.std.specs.Result.{IsErrAnd}
use Rattle.hip_raw.specs.Held.{Held}
use Rattle.hip_raw.specs.Meter.{RisesAtLeast, RisesAtMost, count_from, unless_shared}
use Rattle.hip_bytes.specs.Handle.{Handle}
use Rattle.hip_bytes.specs.Join.{join_cost}
use Rattle.hip_bytes.specs.Kinds.{by_length, HasCapacity, Holds}
use Rattle.hip_bytes.specs.Made.{JoinAnswers}
use Rattle.hip_bytes.specs.declared.grow_fault.GrowFault.{GrowFault}
use Rattle.hip_bytes.specs.declared.grow_fault.GrowFault.TheVariants.{Memory}
use Rattle.hip_bytes.specs.declared.kind.Kind.TheVariants.{Allocated}
use Rattle.hip_bytes.specs.declared.kind.TheConstants.{INLINE_CAPACITY}
use Rattle.hip_bytes.proofs.Pushes.{is_long}

pub not_below : (m n : ℕ) → (m < n → ⊥) → n ≤ m
not_below m n over = omega (arith, over)

pub join_refused : (r : Result Handle GrowFault) (items : List ℕ) → IsErrAnd r (λ fault. fault ≡ Memory) → INLINE_CAPACITY < length items → length items < 2 ^ 64 → JoinAnswers items r
join_refused (Ok handle) items is long fits = absurd is
join_refused (Err fault) items is long fits = subst (λ (f : GrowFault). JoinAnswers items (Err f)) (sym is) (long, fits)

-- a handle of a list that another list is
pub holds_whole : (handle : Handle) (xs items : List ℕ) → xs ≡ items → handle.items ≡ xs → handle.kind ≡ by_length (length xs) → HasCapacity handle.kind (length xs) handle.capacity
    → Holds handle (by_length (length items)) items
holds_whole handle xs items same items_are kind capacity =
    subst (λ ys. Holds handle (by_length (length ys)) ys) same (record { kind_is = kind; items_are = items_are; capacity = subst (λ k. HasCapacity k (length xs) handle.capacity) kind capacity })

-- a handle of an owner of a list that is longer than a handle holds in itself
pub holds_owned : (handle : Handle) (held : Held) (items : List ℕ) → handle ≡ record { kind = Allocated; items = held.items; capacity = held.capacity }
    → held.items ≡ items → length held.items ≤ held.capacity → INLINE_CAPACITY < length items → Holds handle (by_length (length items)) items
holds_owned handle held items is same fits long =
    let kind = sym (is_long (length items) long) in
    subst (λ (h : Handle). Holds h (by_length (length items)) items) (sym is)
    (record { kind_is = kind; items_are = same; capacity = subst (λ k. HasCapacity k (length items) held.capacity) kind (subst (λ xs. length xs ≤ held.capacity) same fits) })

-- a meter of its own counts the bytes that are put together
module _ (old mid none apart n : ℕ) (empty : none ≡ 0) (all : RisesAtMost old mid apart) where
  pub counted_sole : (shares : Bool) (len : ℕ) → shares ≡ false → RisesAtMost none apart (2 * len) → len ≡ n → RisesAtMost old mid (join_cost shares n)
  counted_sole true len sole own same = absurd (cc)
  counted_sole false len sole own same = record { never_falls = all.never_falls; at_most = omega arith }

  pub counted_within : (shares : Bool) (len : ℕ) → RisesAtMost none apart len → len ≡ n → RisesAtMost old mid (join_cost shares n)
  counted_within true len own same = record { never_falls = all.never_falls; at_most = omega arith }
  counted_within false len own same = record { never_falls = all.never_falls; at_most = omega arith }

  pub counted_whole : (shares : Bool) (new len size : ℕ) → RisesAtMost none apart len → len ≡ n → RisesAtMost mid new (unless_shared shares size) → size ≡ n → RisesAtMost old new (join_cost shares n)
  counted_whole true new len size own same last long = record { never_falls = omega arith; at_most = omega arith }
  counted_whole false new len size own same last long = record { never_falls = omega arith; at_most = omega arith }

pub copied_whole : (old mid new none apart len n : ℕ) → none ≡ 0 → RisesAtLeast none apart len → mid ≡ count_from old apart → mid ≤ new → len ≡ n → RisesAtLeast old new n
copied_whole old mid new none apart len n empty own exact more same = omega arith
