use Rattle.std.proofs.Common.{◌≡◌, ◌==◌, ◌||◌, ◌-◌, ◌≤◌, ◌∙◌, ℕ, Bool, List, [], ◌∷◌, length, take, drop, take_all, get_or, ap, arith}
use Rattle.std.specs.List.{list_any}
use Rattle.hip_match.proofs.sets.ascii_set.Goals as goal

-- one character more is found, and one fewer is left
one_less : (d first : ℕ) (seen more : Bool) (rest : List ℕ) → 1 ≤ length rest → first ≡ get_or rest 0 first → more ≡ (d == first || seen)
    → (more || list_any (λ c. c == d) (take (length rest - 1) (drop 1 rest))) ≡ (seen || list_any (λ c. c == d) rest)
one_less d first seen more [] some head is = absurd (omega arith)
one_less d first seen more (x ∷ rest) some head is = grind (arith, take_all)

pub loop-rest-init : goal.loop-rest-init
loop-rest-init c d = ap (λ b. b || list_any (λ c. c == d) c.args.set.now) (c.new-found.ensures d)

pub loop-rest-preserved : goal.loop-rest-preserved
loop-rest-preserved c d = one_less d _ _ _ c.loop-rest.rest.now c.in-len1-up.len_at_least c.first-item.is (c.with-found.ensures d) ∙ c.loop-rest.invariant d
