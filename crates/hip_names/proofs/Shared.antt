-- Paths that begin with the same bytes up to a slash are ordered by what stands behind it.
use Rattle.std.proofs.Common.{◌≡◌, ℕ, List, [], ◌∷◌, ◌++◌, take, drop, refl, ◌-◌, ◌<◌, arith}
use Rattle.std.proofs.lemmas.Grind.{common_steps}
use Rattle.std.proofs.lemmas.List.{take-append-drop}
use Rattle.std.specs.Cmp.{tied_itself}
use Rattle.std.specs.Cmp.Lexicographic.{slice_cmp}
use Rattle.std.specs.Path.{slash}
use Rattle.hip_names.proofs.LastNames.{parts-behind}
use Rattle.hip_names.proofs.Starts.{start-behind}
use Rattle.hip_names.specs.Components.{Component, component_order, components, names, path_order}
use Rattle.hip_names.specs.PathLaws.{component_order_total}
use Rattle.hip_names.specs.Shared.{IsSharedFront}

-- a common front decides nothing
slice_cmp-front : (cs xs ys : List Component) → slice_cmp component_order (cs ++ xs) (cs ++ ys) ≡ slice_cmp component_order xs ys
slice_cmp-front [] xs ys = refl
slice_cmp-front (c ∷ cs) xs ys = rw (tied_itself component_order_total c) (slice_cmp-front cs xs ys)

path_order-front : (front rest later : List ℕ) → path_order (front ++ slash ∷ rest) (front ++ slash ∷ later) ≡ slice_cmp component_order (names rest) (names later)
unfolding components path_order
path_order-front front rest later = grind (arith, start-behind, parts-behind, common_steps, slice_cmp-front)

pub path_order-shared : (left right : List ℕ) (n : ℕ) → 0 < n → IsSharedFront left right n
    → slice_cmp component_order (names (drop n left)) (names (drop n right)) ≡ path_order left right
path_order-shared left right n some shared =
    let begins : take n left ≡ take (n - 1) left ++ slash ∷ [] = grind (arith, common_steps) in
    grind (arith, common_steps, path_order-front (take (n - 1) left) (drop n left) (drop n right), take-append-drop n left, take-append-drop n right)
