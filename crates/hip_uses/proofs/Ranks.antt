-- Counts and their places, in order.
use Rattle.std.proofs.Common.{◌≡◌, ℕ, ◌+◌, ◌<◌, List, [], ◌∷◌, ◌++◌, length, take, get_or, map, arith, Bool, false}
use Rattle.std.proofs.lemmas.Grind.{common_steps}
use Rattle.std.proofs.lemmas.List.{get_or-map, length-map, map-append, take_more}
use Rattle.std.proofs.lemmas.Bool.Decides.{nat_tests}
use Rattle.std.specs.{List.Sorted.IsSortedBy, Ordering.is_lt, Ordering.nat_cmp, Ordering.ordering_then}
use Rattle.std.specs.declared.cmp.Reverse.{Reverse}
use Rattle.hip_uses.specs.Tallies.{count_and_place, numbered, numbered_from, ranks_first}

pub numbered_from-push : (from : ℕ) (counts : List ℕ) (count : ℕ) → numbered_from from (counts ++ count ∷ []) ≡ numbered_from from counts ++ (count, from + length counts) ∷ []
numbered_from-push from [] count = grind arith
numbered_from-push from (c ∷ counts) count = grind (arith, numbered_from-push (from + 1) counts count)

pub ranks-next : (counts : List ℕ) (i : ℕ) (rows after : List (Reverse ℕ × ℕ)) (count : ℕ) → i < length counts → count ≡ get_or counts i 0 → after ≡ rows ++ (record { 0 = count }, i) ∷ []
    → map count_and_place rows ≡ numbered (take i counts) → map count_and_place after ≡ numbered (take (i + 1) counts)
ranks-next counts i rows after count within is pushed so_far = grind (arith, common_steps, take_more counts i 0, map-append, numbered_from-push 0 (take i counts) count)

-- a list in order, where what its elements become is in order too
pub sorted-map : {X Y : Type 0} (f : X → Y) (below : X → X → Bool) (falls : Y → Y → Bool) → ((a b : X) → below a b ≡ false → falls (f a) (f b) ≡ false) → (xs : List X) → IsSortedBy below xs → IsSortedBy falls (map f xs)
sorted-map f below falls keeps [] sorted k d from within = absurd (omega arith)
sorted-map f below falls keeps (x ∷ xs) sorted k d from within =
    let size : length (map f (x ∷ xs)) ≡ length (x ∷ xs) = length-map (x ∷ xs) f in
    rw (get_or-map f (x ∷ xs) (k + 1) x d (omega (arith, size))) (rw (get_or-map f (x ∷ xs) k x d (omega (arith, size))) (keeps _ _ (sorted k x from (omega (arith, size)))))

pub ranks-first : (a b : Reverse ℕ × ℕ) → is_lt (ordering_then (nat_cmp b.0.0 a.0.0) (nat_cmp a.1 b.1)) ≡ false → ranks_first (count_and_place a) (count_and_place b) ≡ false
ranks-first a b is = grind (arith, nat_tests)

abbrev below : Reverse ℕ × ℕ → Reverse ℕ × ℕ → Bool
below a b = is_lt (ordering_then (nat_cmp b.0.0 a.0.0) (nat_cmp a.1 b.1))

pub rows-fall : (rows : List (Reverse ℕ × ℕ)) → IsSortedBy below rows → IsSortedBy ranks_first (map count_and_place rows)
rows-fall rows sorted = sorted-map count_and_place below ranks_first ranks-first rows sorted
