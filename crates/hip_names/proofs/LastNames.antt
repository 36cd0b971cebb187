-- The last name of a path.
use Rattle.std.proofs.Common.{◌≡◌, ℕ, zero, suc, false, cond, List, [], ◌∷◌, ◌++◌, length, take, drop, ◌≤◌, ◌<◌, ◌-◌, ◌+◌, take-add, drop-cons, get_or, slice_range, arith, refl, sym, append-nil, ap, ap₂, ◌∙◌, filter, map, All}
use Rattle.std.proofs.lemmas.Bool.Decides.{nat_tests}
use Rattle.std.proofs.lemmas.Grind.{common_steps}
use Rattle.std.proofs.lemmas.List.{map-append}
use Rattle.std.proofs.lemmas.List.Elements.{filter-append}
use Rattle.std.proofs.lemmas.List.Splits.{length-slice_split, slice_split_none}
use Rattle.std.specs.Path.{slash, is_name}
use Rattle.hip_names.specs.Components.{Component, is_slash, path_parts, names, named}

-- the parts of two lists with a slash between them are those of the one and those of the other
pub parts-behind : (front rest : List ℕ) → path_parts (front ++ slash ∷ rest) ≡ path_parts front ++ path_parts rest
parts-behind [] rest = refl
parts-behind (x ∷ front) rest = grind (arith, parts-behind front rest, length-slice_split is_slash front)

pub names-behind : (front rest : List ℕ) → names (front ++ slash ∷ rest) ≡ names front ++ names rest
names-behind front rest = ap (λ ps. map named (filter is_name ps)) (parts-behind front rest) ∙ ap (map named) (filter-append is_name (path_parts front) (path_parts rest)) ∙ map-append named (filter is_name (path_parts front)) (filter is_name (path_parts rest))

-- what a part names
abbrev pub part_names : List ℕ → List Component
part_names part = cond (is_name part) (named part ∷ []) []

-- no slash stands there
abbrev pub IsWhole : List ℕ → ℕ → ℕ → Type 0
IsWhole path start end = (k : ℕ) → start ≤ k → k < end → get_or path k 0 ≡ slash → ⊥

pub names-part : (part : List ℕ) → All (λ x. is_slash x ≡ false) part → names part ≡ part_names part
names-part part whole = grind (arith, common_steps, slice_split_none is_slash part whole)

pub no_slashes : (path : List ℕ) (start end : ℕ) → end ≤ length path → IsWhole path start end → All (λ x. is_slash x ≡ false) (slice_range path start end)
no_slashes path start end fits whole = λ k d m. grind (arith, nat_tests, common_steps, whole (start + k))

split-at : (path : List ℕ) (at n : ℕ) → at < length path → take (at + suc n) path ≡ take at path ++ get_or path at 0 ∷ take n (drop (suc at) path)
split-at path at n within = take-add at (suc n) path ∙ ap (λ (l : List ℕ). take at path ++ take (suc n) l) (drop-cons path at 0 within)

pub cut-at : (path : List ℕ) (start end : ℕ) → suc start ≤ end → end ≤ length path → get_or path start 0 ≡ slash
    → take end path ≡ take start path ++ slash ∷ slice_range path (suc start) end
cut-at path start end ordered fits at =
    let same : start + suc (end - suc start) ≡ end = omega arith in
    ap (λ n. take n path) (sym same) ∙ split-at path start (end - suc start) (omega arith) ∙ ap (λ b. take start path ++ b ∷ slice_range path (suc start) end) at

pub names-at : (path : List ℕ) (start end : ℕ) → start ≤ end → end ≤ length path → IsWhole path start end → (0 < start → get_or path (start - 1) 0 ≡ slash)
    → names (take end path) ≡ names (take (start - 1) path) ++ part_names (slice_range path start end)
names-at path zero end ordered fits whole at =
    let same : end ≡ end - 0 = omega arith in
    ap (λ n. names (take n path)) same ∙ names-part (slice_range path 0 end) (no_slashes path 0 end fits whole)
names-at path (suc start) end ordered fits whole at =
    let same : suc start - 1 ≡ start = omega arith in
    let slash_at : get_or path start 0 ≡ slash = ap (λ k. get_or path k 0) (sym same) ∙ at (omega arith) in
    ap names (cut-at path start end ordered fits slash_at)
    ∙ names-behind (take start path) (slice_range path (suc start) end)
    ∙ ap₂ (λ (k : ℕ) (cs : List Component). names (take k path) ++ cs) (sym same) (names-part (slice_range path (suc start) end) (no_slashes path (suc start) end fits whole))

-- a part that names nothing is passed, and the slash before it
pub names-passed : (path : List ℕ) (start end : ℕ) → start ≤ end → end ≤ length path → IsWhole path start end → (0 < start → get_or path (start - 1) 0 ≡ slash)
    → is_name (slice_range path start end) ≡ false → names (take (start - 1) path) ≡ names (take end path)
names-passed path start end ordered fits whole at unnamed =
    sym (append-nil (names (take (start - 1) path))) ∙ ap (λ b. names (take (start - 1) path) ++ cond b (named (slice_range path start end) ∷ []) []) (sym unnamed) ∙ sym (names-at path start end ordered fits whole at)

pub ruleset steps = (names-at, names-passed)
