-- Components that begin, or end, with others.
use Rattle.std.proofs.Common.{◌≡◌, zero, suc, List, [], ◌∷◌, ◌++◌, length, ◌↔◌, arith, sym, ap, ap₂, ◌∙◌, append-nil, append_assoc}
use Rattle.std.proofs.lemmas.Grind.{common_steps}
use Rattle.std.proofs.lemmas.List.{same_from_push}
use Rattle.hip_names.specs.Components.{Component}
use Rattle.hip_names.specs.PathParts.{BeginWith, EndWith}

head : Component → List Component → Component
head c [] = c
head c (x ∷ xs) = x

tail : List Component → List Component
tail [] = []
tail (x ∷ xs) = xs

pub begin-nothing : (cs front : List Component) → front ≡ [] → BeginWith cs front
begin-nothing cs front none = record { rest = cs; whole = ap (λ xs. xs ++ cs) (sym none) }

pub nothing-begins : (cs front more : List Component) (c : Component) → cs ≡ [] → front ≡ c ∷ more → BeginWith cs front → ⊥
nothing-begins cs front more c none is begins =
    let no : zero ≡ suc (length (more ++ begins.rest)) = ap (λ (xs : List Component). length xs) (sym none ∙ begins.whole ∙ ap (λ xs. xs ++ begins.rest) is) in absurd (omega arith)

pub begin-same : (cs ds front more : List Component) (c d : Component) → cs ≡ c ∷ ds → front ≡ d ∷ more → c ≡ d → BeginWith ds more ↔ BeginWith cs front
unfolding tail
begin-same cs ds front more c d is wants same = (
  λ b. record { rest = b.rest; whole = is ∙ ap₂ (λ x xs. x ∷ xs) same b.whole ∙ ap (λ xs. xs ++ b.rest) (sym wants) },
  λ b. record { rest = b.rest; whole = ap tail (sym is ∙ b.whole ∙ ap (λ xs. xs ++ b.rest) wants) },
)

pub begin-other : (cs ds front more : List Component) (c d : Component) → cs ≡ c ∷ ds → front ≡ d ∷ more → BeginWith cs front → c ≡ d
unfolding head
begin-other cs ds front more c d is wants b = ap (head c) (sym is ∙ b.whole ∙ ap (λ xs. xs ++ b.rest) wants)

pub end-nothing : (cs back : List Component) → back ≡ [] → EndWith cs back
end-nothing cs back none = record { front = cs; whole = sym (append-nil cs) ∙ ap (λ xs. cs ++ xs) (sym none) }

pub nothing-ends : (cs back more : List Component) (c : Component) → cs ≡ [] → back ≡ more ++ c ∷ [] → EndWith cs back → ⊥
nothing-ends cs back more c none is ends =
    let no : zero ≡ length (ends.front ++ (more ++ c ∷ [])) = ap (λ (xs : List Component). length xs) (sym none ∙ ends.whole ∙ ap (λ xs. ends.front ++ xs) is) in
    absurd (grind (arith, common_steps))

pushed : (cs ds back more : List Component) (c d : Component) → cs ≡ ds ++ c ∷ [] → back ≡ more ++ d ∷ [] → (ends : EndWith cs back) → (ds ≡ ends.front ++ more) × (c ≡ d)
pushed cs ds back more c d is wants ends =
    same_from_push _ _ _ _ (sym is ∙ ends.whole ∙ ap (λ xs. ends.front ++ xs) wants ∙ sym (append_assoc ends.front more (d ∷ [])))

pub end-same : (cs ds back more : List Component) (c d : Component) → cs ≡ ds ++ c ∷ [] → back ≡ more ++ d ∷ [] → c ≡ d → EndWith ds more ↔ EndWith cs back
end-same cs ds back more c d is wants same = (
  λ e. record { front = e.front; whole = is ∙ ap₂ (λ xs x. xs ++ x ∷ []) e.whole same ∙ append_assoc e.front more (d ∷ []) ∙ ap (λ xs. e.front ++ xs) (sym wants) },
  λ e. record { front = e.front; whole = (pushed cs ds back more c d is wants e).0 },
)

pub end-other : (cs ds back more : List Component) (c d : Component) → cs ≡ ds ++ c ∷ [] → back ≡ more ++ d ∷ [] → EndWith cs back → c ≡ d
end-other cs ds back more c d is wants e = (pushed cs ds back more c d is wants e).1

pub ruleset fronts = (begin-nothing, nothing-begins, begin-same, begin-other)

pub ruleset backs = (end-nothing, nothing-ends, end-same, end-other)
