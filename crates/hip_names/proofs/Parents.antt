-- The parent of a path, and its name, by where its last name lies.
use Rattle.std.proofs.Common.{◌≡◌, ◌≢◌, ℕ, zero, suc, Bool, true, false, cond, bytes_eq, nat_eq, List, [], ◌∷◌, ◌++◌, Option, Some, None, length, take, ◌≤◌, slice_range, arith, refl, sym, subst, ap, ap₂, ◌∙◌, filter, map, take-take, inl, inr}
use Rattle.std.proofs.lemmas.Grind.{common_steps}
use Rattle.std.specs.List.{before_first, last_or, starts_with}
use Rattle.std.specs.Path.{cur_dir, is_name, parent_dir, root_dir}
use Rattle.hip_names.specs.Components.{Component, RootDir, CurDir, ParentDir, Normal, components, is_slash, named, names, path_parts, rank, start}
use Rattle.hip_names.specs.LastName.{IsEnd, IsLastName}
use Rattle.hip_names.specs.PathParts.{IsTrimmed, IsParent, HasNoParent, file_name, has_root, is_rooted, name_of}
use Rattle.hip_names.proofs.Lasts.{components-last}

named_no_root : (part : List ℕ) → named part ≢ RootDir
named_no_root part = by (bytes_eq part parent_dir)
  where
    by : (b : Bool) → cond b ParentDir (Normal part) ≢ RootDir
    by true e = let none : suc (suc zero) ≡ zero = ap rank e in absurd (omega arith)
    by false e = let none : suc (suc (suc zero)) ≡ zero = ap rank e in absurd (omega arith)

pub parent-named : (path : List ℕ) (from end n : ℕ) → IsLastName path from end → IsEnd (take from path) n → (n ≤ length path) × IsParent path (take n path)
parent-named path from end n last ends =
    let fits : n ≤ from = grind (arith, common_steps, ends.in_path) in
    let fits_path : n ≤ length path = omega (arith, last.some, last.in_path) in
    let same : take n (take from path) ≡ take n path = take-take n from path fits in (
      fits_path,
      record {
        front = grind (arith, common_steps);
        last = named (slice_range path from end);
        not_root = named_no_root (slice_range path from end);
        others = components-last path from end last ∙ ap (λ cs. cs ++ named (slice_range path from end) ∷ []) (sym ends.same ∙ ap components same);
        trimmed = subst IsTrimmed same ends.trimmed;
      },
    )

pub parent-dot : (path : List ℕ) → names path ≡ [] → start path ≡ CurDir ∷ [] → IsParent path []
unfolding components
parent-dot path none starts = record {
  front = refl;
  last = CurDir;
  not_root = λ e. let no : suc zero ≡ zero = ap rank e in absurd (omega arith);
  others = ap₂ (λ xs ys. xs ++ ys) starts none;
  trimmed = λ n below. absurd (omega arith);
}

pub no-parent : (path : List ℕ) → names path ≡ [] → start path ≡ RootDir ∷ [] → HasNoParent path
unfolding components
no-parent path none starts = inr (ap₂ (λ xs ys. xs ++ ys) starts none)

pub no-component : (path : List ℕ) → names path ≡ [] → start path ≡ [] → HasNoParent path
unfolding components
no-component path none starts = inl (ap₂ (λ (xs ys : List Component). xs ++ ys) starts none)

last_or-push : (o : Option Component) (cs : List Component) (c : Component) → last_or o (cs ++ c ∷ []) ≡ Some c
last_or-push o [] c = refl
last_or-push o (x ∷ cs) c = last_or-push (Some x) cs c

last-named : (path : List ℕ) (from end : ℕ) → IsLastName path from end → last_or None (components path) ≡ Some (named (slice_range path from end))
last-named path from end last =
    ap (last_or None) (components-last path from end last) ∙ last_or-push None (components (take from path)) (named (slice_range path from end))

pub file_name-parent : (path : List ℕ) (from end : ℕ) → IsLastName path from end → bytes_eq (slice_range path from end) parent_dir ≡ true → file_name path ≡ None
unfolding file_name
file_name-parent path from end last parent =
    ap name_of (last-named path from end last) ∙ ap (λ b. name_of (Some (cond b ParentDir (Normal (slice_range path from end))))) parent

pub file_name-normal : (path : List ℕ) (from end : ℕ) → IsLastName path from end → bytes_eq (slice_range path from end) parent_dir ≡ false → file_name path ≡ Some (slice_range path from end)
unfolding file_name
file_name-normal path from end last normal =
    ap name_of (last-named path from end last) ∙ ap (λ b. name_of (Some (cond b ParentDir (Normal (slice_range path from end))))) normal

pub no-file_name : (path : List ℕ) → names path ≡ [] → file_name path ≡ None
unfolding file_name components
no-file_name path none = ap (λ ns. name_of (last_or None (start path ++ ns))) none ∙ by (starts_with nat_eq path root_dir) (bytes_eq (before_first is_slash path) cur_dir)
  where
    by : (rooted dotted : Bool) → name_of (last_or None (cond rooted (RootDir ∷ []) (cond dotted (CurDir ∷ []) []) ++ [])) ≡ None
    by true dotted = refl
    by false true = refl
    by false false = refl

names_no_root : (parts : List (List ℕ)) → is_rooted (map named parts) ≡ false
names_no_root [] = refl
names_no_root (part ∷ parts) = by (bytes_eq part parent_dir)
  where
    by : (b : Bool) → is_rooted (cond b ParentDir (Normal part) ∷ map named parts) ≡ false
    by true = refl
    by false = refl

pub rooted : (path : List ℕ) → start path ≡ RootDir ∷ [] → has_root path ≡ true
unfolding has_root components
rooted path starts = ap (λ cs. is_rooted (cs ++ names path)) starts

pub dotted : (path : List ℕ) → start path ≡ CurDir ∷ [] → has_root path ≡ false
unfolding has_root components
dotted path starts = ap (λ cs. is_rooted (cs ++ names path)) starts

pub unrooted : (path : List ℕ) → start path ≡ [] → has_root path ≡ false
unfolding has_root components
unrooted path starts = ap (λ cs. is_rooted (cs ++ names path)) starts ∙ names_no_root (filter is_name (path_parts path))

pub ruleset roots = (rooted, dotted, unrooted)

pub ruleset parents = (parent-named, parent-dot, no-parent, no-component)

pub ruleset files = (file_name-parent, file_name-normal, no-file_name)
