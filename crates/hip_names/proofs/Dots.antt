-- The last dot of a name.
use Rattle.std.proofs.Common.{◌≡◌, ℕ, true, false, cond, not, List, [], Some, None, length, take, drop, ◌≤◌, ◌<◌, ◌-◌, ◌+◌, get_or, slice_range, arith, ap, ◌∙◌, option_map, option_and_then, ne_eqb, ltb, lt-ltb, take-take}
use Rattle.std.proofs.lemmas.Grind.{common_steps}
use Rattle.std.proofs.lemmas.List.{drop-drop, drop-take}
use Rattle.std.proofs.lemmas.List.Sums.{suffix_len_is}
use Rattle.std.specs.List.{after_last, before_last, suffix_len}
use Rattle.std.specs.Path.{dot}
use Rattle.hip_names.specs.PathParts.{extension, extension_of, file_name, file_stem, has_extension, is_dot, stem_of}

-- how many bytes stand behind the last dot
behind : (name : List ℕ) (at : ℕ) → at ≤ length name → ((k : ℕ) → at ≤ k → k < length name → get_or name k 0 ≡ dot → ⊥) → (0 < at → get_or name (at - 1) 0 ≡ dot)
    → suffix_len (λ b. not (is_dot b)) name ≡ length name - at
behind name at fits none there =
    suffix_len_is (λ b. not (is_dot b)) name at 0 fits (λ k from below. ap not (ne_eqb _ _ (none k from below))) (λ some. ap (λ b. not (is_dot b)) (there some))

pub before : (name : List ℕ) (at : ℕ) → at ≤ length name → ((k : ℕ) → at ≤ k → k < length name → get_or name k 0 ≡ dot → ⊥) → (0 < at → get_or name (at - 1) 0 ≡ dot)
    → before_last is_dot name ≡ take (at - 1) name
before name at fits none there =
    let same : length name - suffix_len (λ b. not (is_dot b)) name - 1 ≡ at - 1 = omega (arith, behind name at fits none there) in
    ap (λ n. take n name) same

pub after : (name : List ℕ) (at : ℕ) → at ≤ length name → ((k : ℕ) → at ≤ k → k < length name → get_or name k 0 ≡ dot → ⊥) → (0 < at → get_or name (at - 1) 0 ≡ dot)
    → after_last is_dot name ≡ drop at name
after name at fits none there =
    let same : length name - suffix_len (λ b. not (is_dot b)) name ≡ at = omega (arith, behind name at fits none there) in
    ap (λ n. drop n name) same

pub none_before : (name : List ℕ) (at : ℕ) → at ≤ length name → ((k : ℕ) → at ≤ k → k < length name → get_or name k 0 ≡ dot → ⊥) → (0 < at → get_or name (at - 1) 0 ≡ dot)
    → at ≤ 1 → before_last is_dot name ≡ []
none_before name at fits none there few =
    let same : at - 1 ≡ 0 = omega arith in
    before name at fits none there ∙ ap (λ n. take n name) same

pub ruleset dots = (before, after, none_before)

has : (name : List ℕ) (at : ℕ) → 1 < at → at ≤ length name → before_last is_dot name ≡ take (at - 1) name → has_extension name ≡ true
has name at some fits front =
    let len : length (take (at - 1) name) ≡ at - 1 = grind (arith, common_steps) in
    ap (λ (b : List ℕ). ltb 0 (length b)) front ∙ lt-ltb _ _ (omega arith)

has_none : (name : List ℕ) → before_last is_dot name ≡ [] → has_extension name ≡ false
has_none name front = ap (λ (b : List ℕ). ltb 0 (length b)) front

pub stem-some : (path : List ℕ) (from end at : ℕ) → from ≤ end → end ≤ length path → file_name path ≡ Some (slice_range path from end) → 1 < at → at ≤ length (slice_range path from end)
    → before_last is_dot (slice_range path from end) ≡ take (at - 1) (slice_range path from end)
    → (from ≤ from + at - 1) × (from + at - 1 ≤ length path) × (file_stem path ≡ Some (slice_range path from (from + at - 1)))
unfolding file_stem
stem-some path from end at ordered fits is some within front =
    let name : List ℕ = slice_range path from end in
    let len : length name ≡ end - from = grind (arith, common_steps) in
    let same : at - 1 ≡ from + at - 1 - from = omega arith in
    let part : take (at - 1) name ≡ slice_range path from (from + at - 1) = take-take (at - 1) (end - from) (drop from path) (omega arith) ∙ ap (λ n. take n (drop from path)) same in
    (omega arith, omega arith, ap (option_map stem_of) is ∙ ap (λ b. Some (cond b (before_last is_dot name) name)) (has name at some within front) ∙ ap Some (front ∙ part))

pub stem-whole : (path name : List ℕ) → file_name path ≡ Some name → before_last is_dot name ≡ [] → file_stem path ≡ Some name
unfolding file_stem
stem-whole path name is front = ap (option_map stem_of) is ∙ ap (λ b. Some (cond b (before_last is_dot name) name)) (has_none name front)

pub stem-none : (path : List ℕ) → file_name path ≡ None → file_stem path ≡ None
unfolding file_stem
stem-none path is = ap (option_map stem_of) is

pub ruleset stems = (stem-whole, stem-none)

drop-part : (xs : List ℕ) (from at end : ℕ) → from + at ≤ end → drop at (slice_range xs from end) ≡ slice_range xs (from + at) end
drop-part xs from at end ordered =
    let rest : ℕ = end - (from + at) in
    let same : end - from ≡ at + rest = omega arith in
    ap (λ n. drop at (take n (drop from xs))) same ∙ drop-take at rest (drop from xs) ∙ ap (take rest) (drop-drop at from xs)

pub extension-some : (path : List ℕ) (from end at : ℕ) → from ≤ end → end ≤ length path → file_name path ≡ Some (slice_range path from end) → 1 < at → at ≤ length (slice_range path from end)
    → before_last is_dot (slice_range path from end) ≡ take (at - 1) (slice_range path from end)
    → after_last is_dot (slice_range path from end) ≡ drop at (slice_range path from end)
    → (from + at ≤ end) × (end ≤ length path) × (extension path ≡ Some (slice_range path (from + at) end))
unfolding extension
extension-some path from end at ordered fits is some within front back =
    let name : List ℕ = slice_range path from end in
    let len : length name ≡ end - from = grind (arith, common_steps) in
    let part : drop at name ≡ slice_range path (from + at) end = drop-part path from at end (omega arith) in
    (omega arith, fits, ap (option_and_then extension_of) is ∙ ap (λ b. cond b (Some (after_last is_dot name)) None) (has name at some within front) ∙ ap Some (back ∙ part))

pub extension-whole : (path name : List ℕ) → file_name path ≡ Some name → before_last is_dot name ≡ [] → extension path ≡ None
unfolding extension
extension-whole path name is front = ap (option_and_then extension_of) is ∙ ap (λ b. cond b (Some (after_last is_dot name)) None) (has_none name front)

pub extension-none : (path : List ℕ) → file_name path ≡ None → extension path ≡ None
unfolding extension
extension-none path is = ap (option_and_then extension_of) is

pub ruleset extensions = (extension-whole, extension-none)
