-- A longer front of a path has no fewer bytes in its components, and one that ends with a name has more than any shorter one.
use Rattle.std.proofs.Common.{◌≡◌, ℕ, zero, suc, Bool, true, false, cond, List, [], ◌∷◌, ◌++◌, length, take, drop, ◌≤◌, ◌<◌, ◌-◌, ◌+◌, get_or, slice_range, arith, refl, sym, ap, ap₂, ◌∙◌, All, bytes_eq, append_assoc}
use Rattle.std.proofs.Common.{eqb-true, le_of_eq, sub-one, take-append-drop, drop-cons}
use Rattle.std.proofs.lemmas.Bool.Decides.{nat_tests}
use Rattle.std.proofs.lemmas.Grind.{common_steps}
use Rattle.std.specs.Cmp.Lexicographic.{bytes_decides}
use Rattle.std.specs.Path.{slash, is_name, cur_dir, parent_dir}
use Rattle.hip_names.specs.Components.{Component, RootDir, CurDir, ParentDir, Normal, components, is_slash, named, names, start}
use Rattle.hip_names.specs.LastName.{IsLastName}
use Rattle.hip_names.proofs.LastNames.{names-at, names-part, part_names, no_slashes, cut-at, IsWhole}
use Rattle.hip_names.proofs.Lasts.{names-before, start-at, start-before}
use Rattle.hip_names.proofs.Starts.{start-behind, start-part}

-- the number of bytes of a component, and of several
abbrev pub text_len : Component → ℕ
text_len RootDir = 1
text_len CurDir = 1
text_len ParentDir = 2
text_len (Normal name) = length name

abbrev pub width : List Component → ℕ
width [] = 0
width (c ∷ cs) = text_len c + width cs

width-append : (xs ys : List Component) → width (xs ++ ys) ≡ width xs + width ys
width-append [] ys = omega arith
width-append (x ∷ xs) ys = omega (arith, width-append xs ys)

named-len : (part : List ℕ) → text_len (named part) ≡ length part
named-len part = by (bytes_eq part parent_dir) refl
  where
    by : (b : Bool) → bytes_eq part parent_dir ≡ b → text_len (cond b ParentDir (Normal part)) ≡ length part
    by true e = sym (ap length ((bytes_decides part parent_dir).0 e))
    by false e = refl

width-part : (part : List ℕ) → is_name part ≡ true → width (part_names part) ≡ length part
width-part part name = ap (λ b. width (cond b (named part ∷ []) [])) name ∙ omega (arith, named-len part)

width-part-le : (part : List ℕ) → width (part_names part) ≤ length part
width-part-le part = by (is_name part)
  where
    by : (b : Bool) → width (cond b (named part ∷ []) []) ≤ length part
    by true = omega (arith, named-len part)
    by false = omega arith

-- a path without a slash has all its bytes in its component
width-whole : (part : List ℕ) → All (λ x. is_slash x ≡ false) part → width (components part) ≡ length part
unfolding components
width-whole [] whole = refl
width-whole (x ∷ part) whole = by (bytes_eq (x ∷ part) cur_dir) refl
  where
    by : (b : Bool) → bytes_eq (x ∷ part) cur_dir ≡ b → width (components (x ∷ part)) ≡ length (x ∷ part)
    by true e =
        let same = (bytes_decides (x ∷ part) cur_dir).0 e in
        ap (λ p. width (components p)) same ∙ sym (ap length same)
    by false e =
        let starts : start (x ∷ part) ≡ [] = start-part (x ∷ part) whole ∙ ap (λ b. cond b (CurDir ∷ []) []) e in
        let name : is_name (x ∷ part) ≡ true = grind (arith, common_steps) in
        ap₂ (λ xs ys. width (xs ++ ys)) starts (names-part (x ∷ part) whole) ∙ width-part (x ∷ part) name

start-within : (path : List ℕ) (at end : ℕ) → suc at ≤ end → end ≤ length path → get_or path at 0 ≡ slash → start (take end path) ≡ start path
start-within path at end ordered fits slash_at =
    let whole : path ≡ take at path ++ slash ∷ drop (suc at) path =
    sym (take-append-drop at path) ∙ ap (λ l. take at path ++ l) (drop-cons path at 0 (omega arith)) ∙ ap (λ b. take at path ++ b ∷ drop (suc at) path) slash_at in
    ap start (cut-at path at end ordered fits slash_at) ∙ start-behind (take at path) (slice_range path (suc at) end) (drop (suc at) path) ∙ ap start (sym whole)

-- a path from its last slash on
width-later : (path : List ℕ) (at end : ℕ) → suc at ≤ end → end ≤ length path → IsWhole path (suc at) end → get_or path at 0 ≡ slash
    → width (components (take end path)) ≡ width (start path ++ names (take at path)) + width (part_names (slice_range path (suc at) end))
unfolding components
width-later path at end ordered fits whole slash_at =
    let same : suc at - 1 ≡ at = omega arith in
    let names_are : names (take end path) ≡ names (take at path) ++ part_names (slice_range path (suc at) end) =
    names-at path (suc at) end ordered fits whole (λ some. ap (λ k. get_or path k 0) same ∙ slash_at)
    ∙ ap (λ k. names (take k path) ++ part_names (slice_range path (suc at) end)) same in
    ap₂ (λ xs ys. width (xs ++ ys)) (start-within path at end ordered fits slash_at) names_are
    ∙ ap width (sym (append_assoc (start path) (names (take at path)) (part_names (slice_range path (suc at) end))))
    ∙ width-append (start path ++ names (take at path)) (part_names (slice_range path (suc at) end))

-- where the last slash of a front stands, if there is one
abbrev LastSlash : List ℕ → ℕ → ℕ → Type 0
LastSlash path n start = (start ≤ n) × IsWhole path start n × (0 < start → get_or path (start - 1) 0 ≡ slash)

last-slash : (path : List ℕ) (n : ℕ) → n ≤ length path → (start : ℕ) × LastSlash path n start
last-slash path zero fits = (0, (omega arith, λ k from below. absurd (omega arith), λ some. absurd (omega arith)))
last-slash path (suc n) fits = by (is_slash (get_or path n 0)) refl (last-slash path n (omega arith))
  where
    by : (b : Bool) → is_slash (get_or path n 0) ≡ b → ((start : ℕ) × LastSlash path n start) → (start : ℕ) × LastSlash path (suc n) start
    by true e before = (suc n, (omega arith, λ k from below. absurd (omega arith), λ some. ap (λ k. get_or path k 0) (sub-one (suc n)) ∙ eqb-true (get_or path n 0) slash e))
    by false e before = (before.0, (omega arith, λ k from below at. grind (arith, nat_tests, before.1.1 k), before.1.2))

-- a front without a slash
width-first : (path : List ℕ) (n : ℕ) → n ≤ length path → IsWhole path 0 n → width (components (take n path)) ≡ n
width-first path n fits whole =
    let same : n ≡ n - 0 = omega arith in
    ap (λ m. width (components (take m path))) same ∙ width-whole (slice_range path 0 n) (no_slashes path 0 n fits whole) ∙ grind (arith, common_steps)

two_name : (part : List ℕ) → 1 < length part → is_name part ≡ true
two_name part long = grind (arith, common_steps, nat_tests)

width-longer : (part longer : List ℕ) → length part < length longer → width (part_names part) ≤ width (part_names longer)
width-longer part [] more = absurd (omega arith)
width-longer part (x ∷ []) more = omega (arith, width-part-le part)
width-longer part (x ∷ y ∷ longer) more = omega (arith, width-part-le part, width-part (x ∷ y ∷ longer) (two_name (x ∷ y ∷ longer) (omega arith)))

-- one byte more
width-step : (path : List ℕ) (n : ℕ) → n < length path → width (components (take n path)) ≤ width (components (take (suc n) path))
unfolding components
width-step path n within = by (is_slash (get_or path n 0)) refl
  where
    slashed : (n : ℕ) → n < length path → get_or path n 0 ≡ slash → width (components (take n path)) ≤ width (components (take (suc n) path))
    slashed zero within at = omega arith
    slashed (suc n) within at =
        let starts = start-at path (suc n) (omega arith) (omega arith) (λ past. at) ∙ sym (start-before path (suc n) within at) in
        let names_are : names (take (suc (suc n)) path) ≡ names (take (suc n) path) =
        names-before path (suc (suc n)) (omega arith) (λ some. ap (λ k. get_or path k 0) (sub-one (suc (suc n))) ∙ at) ∙ ap (λ k. names (take k path)) (sub-one (suc (suc n))) in
        le_of_eq (ap₂ (λ xs ys. width (xs ++ ys)) starts (sym names_are))

    later : (start : ℕ) → LastSlash path n start → is_slash (get_or path n 0) ≡ false → width (components (take n path)) ≤ width (components (take (suc n) path))
    later zero last e =
        let whole : IsWhole path 0 (suc n) = λ k from below at. grind (arith, nat_tests, last.1 k) in
        omega (arith, width-first path n (omega arith) last.1, width-first path (suc n) (omega arith) whole)
    later (suc at) last e =
        let whole : IsWhole path (suc at) (suc n) = λ k from below at. grind (arith, nat_tests, last.1 k) in
        let slash_at : get_or path at 0 ≡ slash = ap (λ k. get_or path k 0) (sym (sub-one (suc at))) ∙ last.2 (omega arith) in
        let longer : length (slice_range path (suc at) n) < length (slice_range path (suc at) (suc n)) = grind (arith, common_steps) in
        omega (
          arith,
          width-later path at n last.0 (omega arith) last.1 slash_at,
          width-later path at (suc n) (omega arith) (omega arith) whole slash_at,
          width-longer (slice_range path (suc at) n) (slice_range path (suc at) (suc n)) longer,
        )

    by : (b : Bool) → is_slash (get_or path n 0) ≡ b → width (components (take n path)) ≤ width (components (take (suc n) path))
    by true e = slashed n within (eqb-true (get_or path n 0) slash e)
    by false e = let last = last-slash path n (omega arith) in later last.0 last.1 e

pub width-front : (path : List ℕ) (n more end : ℕ) → n + more ≡ end → end ≤ length path → width (components (take n path)) ≤ width (components (take end path))
width-front path n zero end e fits = let same : n ≡ end = omega arith in le_of_eq (ap (λ k. width (components (take k path))) same)
width-front path n (suc more) zero e fits = absurd (omega arith)
width-front path n (suc more) (suc end) e fits = omega (arith, width-front path n more end (omega arith) (omega arith), width-step path end (omega arith))

-- the last byte of a name
pub width-name : (path : List ℕ) (start end : ℕ) → IsLastName path start (suc end) → width (components (take end path)) < width (components (take (suc end) path))
width-name path zero end last =
    let whole : IsWhole path 0 end = λ k from below. last.whole k from (omega arith) in
    omega (arith, width-first path end (omega (arith, last.in_path)) whole, width-first path (suc end) last.in_path last.whole)
width-name path (suc at) end last =
    let whole : IsWhole path (suc at) end = λ k from below. last.whole k from (omega arith) in
    let slash_at : get_or path at 0 ≡ slash = ap (λ k. get_or path k 0) (sym (sub-one (suc at))) ∙ last.slash_before (omega arith) in
    let longer : length (slice_range path (suc at) end) < length (slice_range path (suc at) (suc end)) = grind (arith, common_steps, last.in_path, last.some) in
    omega (
      arith,
      last.some,
      last.in_path,
      width-later path at end (omega (arith, last.some)) (omega (arith, last.in_path)) whole slash_at,
      width-later path at (suc end) (omega (arith, last.some)) last.in_path last.whole slash_at,
      width-part-le (slice_range path (suc at) end),
      width-part (slice_range path (suc at) (suc end)) last.is_name,
    )
