-- The components of a path that is joined to another.
use Rattle.std.proofs.Common.{◌≡◌, ℕ, Bool, true, false, cond, List, [], ◌∷◌, ◌++◌, length, take, ◌<◌, ◌-◌, get_or, arith, refl, sym, ap, ap₂, ◌∙◌, append-nil, append_assoc, eqb-true, true≢false}
use Rattle.std.proofs.lemmas.Grind.{common_steps}
use Rattle.std.specs.Path.{slash, path_join, with_separator}
use Rattle.hip_names.specs.Components.{Component, components, is_slash, names, start}
use Rattle.hip_names.specs.PathParts.{has_root}
use Rattle.hip_names.proofs.LastNames.{names-behind}
use Rattle.hip_names.proofs.Starts.{start-behind, start-ended}

-- a slash between two paths, the first of which has a byte
behind_slash : (base path : List ℕ) → 0 < length base → components (base ++ slash ∷ path) ≡ components base ++ names path
unfolding components
behind_slash base path some =
    ap₂ (λ (xs ys : List Component). xs ++ ys) (start-ended base path some) (names-behind base path) ∙ sym (append_assoc (start base) (names base) (names path))

-- a path that ends with a slash
ended : (front path : List ℕ) → components ((front ++ slash ∷ []) ++ path) ≡ components (front ++ slash ∷ []) ++ names path
unfolding components
ended front path =
    let alone : names (front ++ slash ∷ []) ≡ names front = names-behind front [] ∙ append-nil (names front) in
    ap (λ l. start l ++ names l) (append_assoc front (slash ∷ []) path)
    ∙ ap₂ (λ (xs ys : List Component). xs ++ ys) (start-behind front path []) (names-behind front path ∙ ap (λ ns. ns ++ names path) (sym alone))
    ∙ sym (append_assoc (start (front ++ slash ∷ [])) (names (front ++ slash ∷ [])) (names path))

unslashed : (path : List ℕ) → has_root path ≡ false → is_slash (get_or path 0 0) ≡ false
unfolding has_root components
unslashed [] relative = refl
unslashed (x ∷ path) relative = by (is_slash x) refl
  where
    by : (b : Bool) → is_slash x ≡ b → is_slash x ≡ false
    by true e = absurd (true≢false (sym (ap (λ c. has_root (c ∷ path)) (eqb-true x slash e)) ∙ relative))
    by false e = e

pub components-join : (base path : List ℕ) → 0 < length base → has_root path ≡ false → components (path_join base path) ≡ components base ++ names path
unfolding path_join
components-join base path some relative =
    ap (λ b. components (cond b path (with_separator base ++ path))) (unslashed path relative) ∙ by (is_slash (get_or base (length base - 1) 0)) refl
  where
    whole : get_or base (length base - 1) 0 ≡ slash → base ≡ take (length base - 1) base ++ slash ∷ []
    whole at = grind (arith, common_steps)

    by : (b : Bool) → is_slash (get_or base (length base - 1) 0) ≡ b → components (with_separator base ++ path) ≡ components base ++ names path
    by true e =
        let kept : with_separator base ≡ base = grind (arith, common_steps) in
        let is = whole (eqb-true (get_or base (length base - 1) 0) slash e) in
        ap (λ l. components (l ++ path)) (kept ∙ is) ∙ ended (take (length base - 1) base) path ∙ ap (λ l. components l ++ names path) (sym is)
    by false e =
        let longer : with_separator base ≡ base ++ slash ∷ [] = grind (arith, common_steps) in
        ap (λ l. components (l ++ path)) longer ∙ ap components (append_assoc base (slash ∷ []) path) ∙ behind_slash base path some

pub ruleset joins = (components-join)
