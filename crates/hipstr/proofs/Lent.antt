-- The cost of a value whose items are lent and put back, longer or as they were.
use Rattle.std.proofs.Common.{◌≡◌, ◌∙◌, ℕ, ◌+◌, List, ◌++◌, length, max, ap, arith}
use Rattle.std.proofs.lemmas.List.{length-append}
use Rattle.hip_bytes.specs.Meter.{RisesAtMost}

pub lent-longer : (put_cost : ℕ → ℕ) (was addition lent put : List ℕ) (before mid after : ℕ) → lent ≡ was → put ≡ lent ++ addition → RisesAtMost before mid (length was) → RisesAtMost mid after (put_cost (length put))
    → RisesAtMost before after (length was + max (put_cost (length was)) (put_cost (length was + length addition)))
lent-longer put_cost was addition lent put before mid after same longer lends puts =
    let cost : put_cost (length put) ≡ put_cost (length was + length addition) = ap put_cost (ap length longer ∙ length-append lent addition ∙ ap (λ (l : List ℕ). length l + length addition) same) in
    record { never_falls = omega (arith, lends.never_falls, puts.never_falls); at_most = omega (arith, lends.at_most, puts.at_most, cost) }

pub lent-same : (put_cost : ℕ → ℕ) (was lent put : List ℕ) (more before mid after : ℕ) → lent ≡ was → put ≡ lent → RisesAtMost before mid (length was) → RisesAtMost mid after (put_cost (length put))
    → RisesAtMost before after (length was + max (put_cost (length was)) more)
lent-same put_cost was lent put more before mid after same still lends puts =
    let cost : put_cost (length put) ≡ put_cost (length was) = ap (λ (l : List ℕ). put_cost (length l)) (still ∙ same) in
    record { never_falls = omega (arith, lends.never_falls, puts.never_falls); at_most = omega (arith, lends.at_most, puts.at_most, cost) }
