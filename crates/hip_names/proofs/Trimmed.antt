-- A path up to its last name is trimmed, and so is one without names.
use Rattle.std.proofs.Common.{◌≡◌, ℕ, zero, suc, List, [], ◌∷◌, ◌++◌, length, take, ◌<◌, ◌-◌, get_or, arith, refl, sym, ap, ap₂, ◌∙◌}
use Rattle.std.proofs.Common.{Bool, true, false, cond, bytes_eq, eqb-true, take-take}
use Rattle.std.specs.Cmp.Lexicographic.{bytes_decides}
use Rattle.std.specs.List.{before_first}
use Rattle.std.specs.Path.{slash, dot, cur_dir}
use Rattle.hip_names.proofs.Starts.{before_first-head, start-unrooted}
use Rattle.std.proofs.lemmas.Grind.{common_steps}
use Rattle.hip_names.specs.Components.{Component, CurDir, components, is_slash, names, start}
use Rattle.hip_names.specs.LastName.{IsEnd, IsLastName}
use Rattle.hip_names.specs.PathParts.{IsTrimmed}
use Rattle.hip_names.proofs.Lasts.{start-at}
use Rattle.hip_names.proofs.Widths.{width, width-front, width-name}

-- the path up to its last name has its components
components-named : (path : List ℕ) (from end : ℕ) → IsLastName path from end → components (take end path) ≡ components path
unfolding components
components-named path from end last = ap₂ (λ xs ys. xs ++ ys) (start-at path end (omega (arith, last.some)) last.in_path last.slash_behind) last.none_behind

trimmed-named : (path : List ℕ) (from end : ℕ) → IsLastName path from end → IsTrimmed (take end path)
trimmed-named path from zero last = absurd (omega (arith, last.some))
trimmed-named path from (suc end) last =
    let len : length (take (suc end) path) ≡ suc end = grind (arith, common_steps, last.in_path) in
    λ n below same.
    let shorter : take n (take (suc end) path) ≡ take n path = take-take n (suc end) path (omega arith) in
    let width_is : width (components (take n path)) ≡ width (components (take (suc end) path)) = ap (λ p. width (components p)) (sym shorter) ∙ ap width same in
    omega (arith, width-front path n (end - n) end (omega arith) (omega (arith, last.in_path)), width-name path from end last)

-- a path without names is its root or its dot
components-start : (path : List ℕ) (first : Component) → start path ≡ first ∷ [] → components (take 1 path) ≡ first ∷ []
unfolding components
components-start [] first starts = starts
components-start (x ∷ path) first starts = by (is_slash x) refl
  where
    dotted : (b : Bool) → bytes_eq (before_first is_slash (x ∷ path)) cur_dir ≡ b → start (x ∷ path) ≡ cond b (CurDir ∷ []) [] → is_slash x ≡ false → components (x ∷ []) ≡ first ∷ []
    dotted true e is e' =
        let at : x ≡ dot = sym (before_first-head x path e') ∙ ap (λ part. get_or part 0 0) ((bytes_decides (before_first is_slash (x ∷ path)) cur_dir).0 e) in
        ap (λ b. components (b ∷ [])) at ∙ sym is ∙ starts
    dotted false e is e' = let none : suc zero ≡ zero = ap (λ (cs : List Component). length cs) (sym starts ∙ is) in absurd (omega arith)

    by : (b : Bool) → is_slash x ≡ b → components (x ∷ []) ≡ first ∷ []
    by true e =
        let at = eqb-true x slash e in
        ap (λ b. components (b ∷ [])) at ∙ sym (ap (λ b. start (b ∷ path)) at) ∙ starts
    by false e = dotted (bytes_eq (before_first is_slash (x ∷ path)) cur_dir) refl (start-unrooted x path e) e

-- a path without names is trimmed to its root or its dot, if it has one, and else to nothing
trimmed-start : (path : List ℕ) (first : Component) → start path ≡ first ∷ [] → IsTrimmed (take 1 path)
unfolding components
trimmed-start path first starts = λ n below same. at n below same
  where
    at : (n : ℕ) → n < length (take 1 path) → components (take n (take 1 path)) ≡ components (take 1 path) → ⊥
    at zero below same =
        let none : zero ≡ suc zero = ap (λ (cs : List Component). length cs) (same ∙ components-start path first starts) in absurd (omega arith)
    at (suc n) below same = absurd (grind (arith, common_steps))

pub end-named : (path : List ℕ) (from end : ℕ) → IsLastName path from end → IsEnd path end
end-named path from end last = record { in_path = last.in_path; same = components-named path from end last; trimmed = trimmed-named path from end last }

pub end-start : (path : List ℕ) (first : Component) → names path ≡ [] → start path ≡ first ∷ [] → IsEnd path 1
unfolding components
end-start [] first none starts = let none : zero ≡ suc zero = ap (λ (cs : List Component). length cs) starts in absurd (omega arith)
end-start (x ∷ path) first none starts =
    record { in_path = omega arith; same = components-start (x ∷ path) first starts ∙ sym (ap₂ (λ xs ys. xs ++ ys) starts none); trimmed = trimmed-start (x ∷ path) first starts }

pub end-none : (path : List ℕ) → names path ≡ [] → start path ≡ [] → IsEnd path 0
unfolding components
end-none path none starts = record { in_path = omega arith; same = sym (ap₂ (λ (xs ys : List Component). xs ++ ys) starts none); trimmed = λ n below. absurd (omega arith) }

pub ruleset ends = (end-named, end-start, end-none)
