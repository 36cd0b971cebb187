-- What a path is without its last name, and where it ends.
use Rattle.std.proofs.Common.{◌≡◌, ℕ, zero, suc, true, false, cond, List, [], ◌∷◌, ◌++◌, length, take, drop, ◌≤◌, ◌<◌, ◌-◌, get_or, slice_range, arith, sym, ap, ap₂, ◌∙◌, bytes_eq, append-nil, append_assoc}
use Rattle.std.proofs.Common.{take-suc, take_all, inl, inr, eq-or-lt_of_le, take-append-drop, drop-cons}
use Rattle.std.proofs.lemmas.Grind.{common_steps}
use Rattle.std.specs.Path.{slash, is_name, cur_dir}
use Rattle.hip_names.specs.Components.{Component, CurDir, components, named, names, start}
use Rattle.hip_names.specs.LastName.{IsLastName}
use Rattle.hip_names.proofs.LastNames.{names-at, part_names, no_slashes}
use Rattle.hip_names.proofs.Starts.{start-behind, start-ended, start-part}

-- the slash before a position names nothing
pub names-before : (path : List ℕ) (at : ℕ) → at ≤ length path → (0 < at → get_or path (at - 1) 0 ≡ slash) → names (take at path) ≡ names (take (at - 1) path)
names-before path at fits slash_at =
    let none : at - at ≡ 0 = omega arith in
    names-at path at at (omega arith) fits (λ k from below. absurd (omega arith)) slash_at
    ∙ ap (λ n. names (take (at - 1) path) ++ part_names (take n (drop at path))) none
    ∙ append-nil (names (take (at - 1) path))

pub names-last : (path : List ℕ) (start end : ℕ) → IsLastName path start end → names path ≡ names (take start path) ++ named (slice_range path start end) ∷ []
names-last path start end last =
    sym last.none_behind
    ∙ names-at path start end (omega arith) last.in_path last.whole last.slash_before
    ∙ ap₂ (λ cs b. cs ++ cond b (named (slice_range path start end) ∷ []) []) (sym (names-before path start (omega arith) last.slash_before)) last.is_name

-- a path up to a slash, and it as a whole, begin alike
pub start-before : (path : List ℕ) (at : ℕ) → at < length path → get_or path at 0 ≡ slash → start (take (suc at) path) ≡ start path
start-before path at within slash_at =
    let whole : path ≡ take at path ++ slash ∷ drop (suc at) path =
    sym (take-append-drop at path) ∙ ap (λ l. take at path ++ l) (drop-cons path at 0 within) ∙ ap (λ b. take at path ++ b ∷ drop (suc at) path) slash_at in
    let front : take (suc at) path ≡ take at path ++ slash ∷ [] = take-suc path at 0 within ∙ ap (λ b. take at path ++ b ∷ []) slash_at in
    ap start front ∙ start-behind (take at path) [] (drop (suc at) path) ∙ ap start (sym whole)

pub start-at : (path : List ℕ) (end : ℕ) → 0 < end → end ≤ length path → (end < length path → get_or path end 0 ≡ slash) → start (take end path) ≡ start path
start-at path end some fits slash_at = elim (eq-or-lt_of_le fits) [ inl past ↦ ap start (whole_front past) | inr within ↦ inner within ]
  where
    whole_front : end ≡ length path → take end path ≡ path
    whole_front past = ap (λ n. take n path) past ∙ take_all (length path) path (omega arith)

    inner : end < length path → start (take end path) ≡ start path
    inner within =
        let whole : path ≡ take end path ++ slash ∷ drop (suc end) path =
        sym (take-append-drop end path) ∙ ap (λ l. take end path ++ l) (drop-cons path end 0 within) ∙ ap (λ b. take end path ++ b ∷ drop (suc end) path) (slash_at within) in
        let long : 0 < length (take end path) = grind (arith, common_steps) in
        sym (ap start whole ∙ start-ended (take end path) (drop (suc end) path) long)

not_dot : (part : List ℕ) → is_name part ≡ true → bytes_eq part cur_dir ≡ false
not_dot part name = grind (arith, common_steps)

-- a path without its last name, and that name
pub components-last : (path : List ℕ) (start end : ℕ) → IsLastName path start end → components path ≡ components (take start path) ++ named (slice_range path start end) ∷ []
unfolding components
components-last path zero end last =
    let same : end ≡ end - 0 = omega arith in
    let whole = no_slashes path 0 end last.in_path last.whole in
    let starts : start path ≡ [] =
    sym (start-at path end (last.some) last.in_path last.slash_behind) ∙ ap (λ n. start (take n path)) same ∙ start-part (slice_range path 0 end) whole
    ∙ ap (λ b. cond b (CurDir ∷ []) []) (not_dot (slice_range path 0 end) last.is_name) in
    ap₂ (λ (xs ys : List Component). xs ++ ys) starts (names-last path 0 end last)
components-last path (suc at) end last =
    let same : suc at - 1 ≡ at = omega arith in
    let slash_at : get_or path at 0 ≡ slash = ap (λ k. get_or path k 0) (sym same) ∙ last.slash_before (omega arith) in
    ap₂ (λ (xs ys : List Component). xs ++ ys) (sym (start-before path at (omega (arith, last.some, last.in_path)) slash_at)) (names-last path (suc at) end last)
    ∙ sym (append_assoc (start (take (suc at) path)) (names (take (suc at) path)) (named (slice_range path (suc at) end) ∷ []))

pub ruleset lasts = (names-last)
