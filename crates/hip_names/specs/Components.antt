-- The components of a path, as Rust's documentation of `std::path::Path` has them on Unix, and their order.
use Rattle.std.specs.Prelude.{◌≡◌, ℕ, List, [], ◌∷◌, ◌++◌, Bool, nat_eq, ◌==◌, if◌then◌else◌, map, filter, codes, refl}
use Rattle.std.specs.Cmp.Lexicographic.{slice_cmp}
use Rattle.std.specs.List.{before_first, slice_split, starts_with}
use Rattle.std.specs.Ordering.{nat_cmp}
use Rattle.std.specs.Path.{slash, root_dir, cur_dir, parent_dir, is_name}
use Rattle.std.specs.Str.{bytes_eq}
use Rattle.std.specs.declared.cmp.Ordering.{Ordering}

-- the root, `.`, `..`, or a name
pub data Component : Type 0 where
  RootDir : Component
  CurDir : Component
  ParentDir : Component
  Normal : List ℕ → Component

abbrev pub is_slash : ℕ → Bool
is_slash byte = byte == slash

-- the lists between the slashes of a path
abbrev pub path_parts : List ℕ → List (List ℕ)
path_parts path = slice_split is_slash path

-- the component of a part that is neither empty nor `.`
abbrev pub named : List ℕ → Component
named part = if bytes_eq part parent_dir then ParentDir else Normal part

-- the components of the parts of a path: those that are empty or `.` have none
abbrev pub names : List ℕ → List Component
names path = map named (filter is_name (path_parts path))

-- the component that a path begins with beside its names: the root where its first byte is a slash, `.` where its first part is `.`
abbrev pub start : List ℕ → List Component
start path =
    if starts_with nat_eq path root_dir then RootDir ∷ []
    else if bytes_eq (before_first is_slash path) cur_dir then CurDir ∷ []
    else []

unfoldable pub components : List ℕ → List Component
components path = start path ++ names path

-- the place of a component among those of other kinds
abbrev pub rank : Component → ℕ
rank RootDir = 0
rank CurDir = 1
rank ParentDir = 2
rank (Normal name) = 3

-- the root, `.`, `..`, names; and names by their bytes
abbrev pub component_order : Component → Component → Ordering
component_order (Normal a) (Normal b) = slice_cmp nat_cmp a b
component_order a b = nat_cmp (rank a) (rank b)

-- paths are ordered as the lists of their components are
unfoldable pub path_order : List ℕ → List ℕ → Ordering
path_order a b = slice_cmp component_order (components a) (components b)

-- `/a/./b/../c`
pub all_kinds : components (codes "/a/./b/../c") ≡ RootDir ∷ Normal (codes "a") ∷ Normal (codes "b") ∷ ParentDir ∷ Normal (codes "c") ∷ []
unfolding components
all_kinds = refl

-- `.` stands at the front of a path without a root, and nowhere else
pub at_the_front : (components (codes "./") ≡ CurDir ∷ []) × (components (codes "/./a") ≡ components (codes "/a")) × (components (codes "a/./b") ≡ components (codes "a/b"))
unfolding components
at_the_front = (refl, refl, refl)

pub slashes_alone : (components (codes "//") ≡ RootDir ∷ []) × (components [] ≡ [])
unfolding components
slashes_alone = (refl, refl)
