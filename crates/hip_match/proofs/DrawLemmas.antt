-- Draws from one end.
use Rattle.std.proofs.lemmas.Bool.Decides.{nat_tests}
use Rattle.std.proofs.lemmas.Grind.{common_steps}
use Rattle.std.proofs.Common.{arith, ◌≡◌, ℕ, List, [], ◌∷◌, ◌++◌, Option, Some, None, refl, ap, append_assoc, reverse, append-nil, MatchOption}
use Rattle.std.proofs.lemmas.List.{reverse-append}
use Rattle.hip_match.specs.declared.draw.End.{End}
use Rattle.hip_match.specs.declared.draw.End.TheVariants.{Front, Back}
use Rattle.hip_match.specs.Draw.{last_of, but_last, draw, left_by, fronts, backs, TakesEnd}

last_of-append : (y : ℕ × ℕ) (l : List (ℕ × ℕ)) (x : ℕ × ℕ) → last_of y (l ++ x ∷ []) ≡ x
last_of-append y [] x = refl
last_of-append y (z ∷ l) x = last_of-append z l x

but_last-append : (y : ℕ × ℕ) (l : List (ℕ × ℕ)) (x : ℕ × ℕ) → but_last y (l ++ x ∷ []) ≡ y ∷ l
but_last-append y [] x = refl
but_last-append y (z ∷ l) x = ap (λ r. y ∷ r) (but_last-append z l x)

back : (l : List (ℕ × ℕ)) (x : ℕ × ℕ) (es : List End) → (draw (l ++ x ∷ []) (Back ∷ es) ≡ x ∷ draw l es) × (left_by (l ++ x ∷ []) (Back ∷ es) ≡ left_by l es)
back [] x es = (refl, refl)
back (y ∷ l) x es = grind (arith, last_of-append, but_last-append)

pub TakesEnd-back : (old new : List (ℕ × ℕ)) (r : Option (ℕ × ℕ)) → MatchOption r ((old ≡ []) × (new ≡ [])) (λ x. old ≡ new ++ x ∷ []) → TakesEnd Back old new r
TakesEnd-back old new None h = h
TakesEnd-back old new (Some x) h = λ es. grind (arith, back new x es)

but_last-last : (x : ℕ × ℕ) (l : List (ℕ × ℕ)) → but_last x l ++ last_of x l ∷ [] ≡ x ∷ l
but_last-last x [] = refl
but_last-last x (y ∷ l) = ap (λ r. x ∷ r) (but_last-last y l)

pub ends_meet : (es : List End) (l : List (ℕ × ℕ)) → fronts es (draw l es) ++ (left_by l es ++ reverse (backs es (draw l es))) ≡ l
ends_meet [] l = append-nil l
ends_meet (e ∷ es) [] = refl
ends_meet (Front ∷ es) (x ∷ l) = ap (λ r. x ∷ r) (ends_meet es l)
ends_meet (Back ∷ es) (x ∷ l) = grind (arith, nat_tests, common_steps, reverse-append, append_assoc, but_last-last, ends_meet es (but_last x l))
