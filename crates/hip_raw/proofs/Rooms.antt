-- A front of some cells, which goes on by other bytes or by its own first ones.
use Rattle.std.proofs.Common.{◌≡◌, ℕ, ◌+◌, ◌≤◌, List, ◌++◌, take, drop, length, ap, ap₂, ◌∙◌, length-take-le, take-take, take_all, append_assoc, le_refl, refl, arith}
use Rattle.hip_raw.proofs.Windows.{take-append_two}

-- the front has as many bytes as it goes on by
pub goes_on_within : (xs h : List ℕ) (k n s count : ℕ) → k ≤ n → length xs ≡ n → take k xs ≡ h → s ≡ k → count ≤ length h → count ≤ s
goes_on_within xs h k n s count le full is at there = omega (arith, length-take-le k xs (omega arith), ap length is)

-- a list is cut in two at `s`, and its first bytes are put behind the front
pub both_are : (xs front back new : List ℕ) (s count : ℕ) → count ≤ s → length front ≡ s → front ≡ take s xs → new ≡ take count front ++ drop count back
    → take (s + count) (front ++ new) ≡ take s xs ++ take count xs
both_are xs front back new s count there long front_is is =
    ap (λ l. take (s + count) (front ++ l)) is ∙ take-append_two front (take count front) (drop count back) s count long (length-take-le count front (omega arith))
    ∙ ap₂ (λ f g. f ++ g) front_is (ap (take count) front_is ∙ take-take count s xs there)

-- bytes are put behind the first `s`, and others may stand behind them
pub put_behind : (xs add rest post new h : List ℕ) (s n' : ℕ) → new ≡ take (length add) add ++ rest → n' ≡ s + length add → s ≤ length xs → take s xs ≡ h → take n' (take s xs ++ (new ++ post)) ≡ h ++ add
put_behind xs add rest post new h s n' is count le front =
    let all : new ++ post ≡ add ++ (rest ++ post) = ap (λ l. l ++ post) (is ∙ ap (λ l. l ++ rest) (take_all (length add) add (le_refl _))) ∙ append_assoc add rest post in
    ap₂ (λ k l. take k (take s xs ++ l)) count all ∙ take-append_two (take s xs) add (rest ++ post) s (length add) (length-take-le s xs le) refl ∙ ap (λ l. l ++ add) front
