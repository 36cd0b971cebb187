-- The cost of parts.
use Rattle.std.proofs.Common.{◌≡◌, ◌∙◌, ℕ, ◌+◌, ◌-◌, ◌*◌, ◌≤◌, Bool, true, false, List, [], ◌∷◌, length, ap, refl, sym, arith}
use Rattle.hip_bytes.proofs.Costs.{shared_part_is_little}
use Rattle.hip_bytes.specs.Cost.{cut_cost}
use Rattle.hip_bytes.specs.Handle.{Handle}
use Rattle.hip_bytes.specs.Meter.{RisesAtMost}
use Rattle.hip_bytes.specs.declared.kind.Kind.{Kind}
use Rattle.hip_bytes.specs.declared.kind.Kind.TheVariants.{Inline, Borrowed, Allocated}
use Rattle.hip_bytes.specs.declared.kind.TheConstants.{INLINE_CAPACITY}
use Rattle.hip_cuts.specs.Piece.{IsLittle, Left, part_cost, parts_cost}
use Rattle.hip_match.specs.Pieces.{InOrder}

-- a meter that has risen by no more than the parts cost that were drawn, after one draw more
pub drawn-cost : (shares : Bool) (old new : Left) (source : Handle) (range : ℕ × ℕ) (start before after most : ℕ) → old.source ≡ source → old.rest ≡ range ∷ new.rest → RisesAtMost before after (part_cost shares old.source range)
    → start ≤ before → before + parts_cost shares source old.rest ≤ most → (start ≤ after) × (after + parts_cost shares source new.rest ≤ most)
drawn-cost shares old new source range start before after most same split rises never_falls at_most =
    let cost : parts_cost shares source old.rest ≡ part_cost shares old.source range + parts_cost shares source new.rest =
    ap (parts_cost shares source) split ∙ ap (λ (s : Handle). part_cost shares s range + parts_cost shares source new.rest) (sym same) in
    (omega (arith, never_falls, rises.never_falls), omega (arith, rises.at_most, at_most, cost))

-- ---- where owners are shared
pub part-little : (source : Handle) (len : ℕ) → IsLittle source 1 (cut_cost true source.kind len)
part-little source len = record { at_most = omega (arith, shared_part_is_little source.kind len); lent = λ lent. ap (λ (kind : Kind). cut_cost true kind len) lent }

parts-at-most : (source : Handle) (ranges : List (ℕ × ℕ)) → parts_cost true source ranges ≤ length ranges * INLINE_CAPACITY
parts-at-most source [] = omega arith
parts-at-most source (range ∷ ranges) = omega (arith, shared_part_is_little source.kind (range.1 - range.0), parts-at-most source ranges)

-- ---- of a borrowed text
pub parts_lent : (shares : Bool) (source : Handle) (ranges : List (ℕ × ℕ)) → source.kind ≡ Borrowed → parts_cost shares source ranges ≡ 0
parts_lent shares source [] lent = refl
parts_lent shares source (range ∷ ranges) lent =
    omega (arith, ap (λ (kind : Kind). cut_cost shares kind (range.1 - range.0)) lent, parts_lent shares source ranges lent)

pub parts_little : (source : Handle) (ranges : List (ℕ × ℕ)) → IsLittle source (length ranges) (parts_cost true source ranges)
parts_little source ranges = record { at_most = parts-at-most source ranges; lent = parts_lent true source ranges }

-- ---- where owners aren't shared
part-within : (kind : Kind) (len : ℕ) → cut_cost false kind len ≤ len
part-within Inline len = omega arith
part-within Borrowed len = omega arith
part-within Allocated len = search arith

pub parts_within : (source : Handle) (from : ℕ) (ranges : List (ℕ × ℕ)) (to : ℕ) → InOrder from ranges to → from + parts_cost false source ranges ≤ to
parts_within source from [] to order = omega (arith, order)
parts_within source from (range ∷ ranges) to order =
    omega (arith, order.0, order.1, part-within source.kind (range.1 - range.0), parts_within source range.1 ranges to order.2)
