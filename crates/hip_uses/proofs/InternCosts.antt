-- What interning copies.
use Rattle.std.proofs.Common.{◌≡◌, ℕ, ◌+◌, ◌<◌, ◌≤◌, Bool, List, ◌∷◌, arith, slice_range, ap}
use Rattle.std.proofs.lemmas.Grind.{common_steps}
use Rattle.hipstr.specs.Meter.{RisesAtMost}
use Rattle.hipstr.specs.Occurrence.{IsCut}
use Rattle.hipstr.specs.declared.Kind.{Kind}
use Rattle.hip_uses.specs.Interning.{word_cost, words_cost}
use Rattle.hip_uses.specs.Number.{interned}
use Rattle.hip_uses.specs.Words.{filled_parts}

-- the first of the ranges that are left
filled-first : (text : List ℕ) (range : ℕ × ℕ) (rest next : List (ℕ × ℕ)) → IsCut text range → rest ≡ range ∷ next → range.0 < range.1 → filled_parts text rest ≡ slice_range text range.0 range.1 ∷ filled_parts text next
filled-first text range rest next cut first some = grind (arith, common_steps)

-- once one more word is interned, what was counted and what is left are within the whole cost
pub costs-on : (shares : Bool) (kind : Kind) (now later : List (List ℕ)) (text : List ℕ) (rest next : List (ℕ × ℕ)) (range : ℕ × ℕ) (before after total : ℕ) → IsCut text range → rest ≡ range ∷ next → range.0 < range.1
    → later ≡ interned now (slice_range text range.0 range.1) → before + words_cost shares kind now (filled_parts text rest) ≤ total → RisesAtMost before after (word_cost shares kind now (slice_range text range.0 range.1))
    → after + words_cost shares kind later (filled_parts text next) ≤ total
costs-on shares kind now later text rest next range before after total cut first some is within counted =
    let all : words_cost shares kind now (filled_parts text rest) ≡ word_cost shares kind now (slice_range text range.0 range.1) + words_cost shares kind (interned now (slice_range text range.0 range.1)) (filled_parts text next) =
    ap (words_cost shares kind now) (filled-first text range rest next cut first some) in
    let left : words_cost shares kind later (filled_parts text next) ≡ words_cost shares kind (interned now (slice_range text range.0 range.1)) (filled_parts text next) = ap (λ t. words_cost shares kind t (filled_parts text next)) is in
    omega (arith, within, all, left, counted.at_most)
