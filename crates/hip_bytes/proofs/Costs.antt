-- Costs. Where owners are shared, a clone and a part copy no more bytes than a handle holds in itself, whatever the kind and the length.
use Rattle.std.proofs.Common.{ℕ, ◌≤◌, true, Result, Ok, Err, OnErr, le_refl, arith}
use Rattle.hip_raw.specs.Meter.{RisesAtMost}
use Rattle.hip_bytes.specs.Cost.{clone_cost, cut_cost}
use Rattle.hip_bytes.specs.declared.kind.Kind.{Kind}
use Rattle.hip_bytes.specs.declared.kind.Kind.TheVariants.{Inline, Borrowed, Allocated}
use Rattle.hip_bytes.specs.declared.kind.TheConstants.{INLINE_CAPACITY}

pub shared_clone_is_little : (kind : Kind) (len : ℕ) → clone_cost true kind len ≤ INLINE_CAPACITY
shared_clone_is_little Inline len = omega arith
shared_clone_is_little Borrowed len = omega arith
shared_clone_is_little Allocated len = omega arith

pub shared_part_is_little : (kind : Kind) (len : ℕ) → cut_cost true kind len ≤ INLINE_CAPACITY
shared_part_is_little Inline len = omega arith
shared_part_is_little Borrowed len = omega arith
shared_part_is_little Allocated len = search arith

-- a meter that stays
pub nothing_copied : (m n : ℕ) → RisesAtMost m m n
nothing_copied m n = record { never_falls = le_refl m; at_most = omega arith }

-- a fact that holds in any case holds of a refusal
pub if_err : {A E : Type 0} (r : Result A E) (P : Type 0) → P → OnErr r P
if_err (Ok a) P h = tt
if_err (Err e) P h = h
