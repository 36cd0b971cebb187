-- The parts of a path, as Rust's documentation of `std::path::Path` has them on Unix: by its components.
use Rattle.std.specs.Prelude.{◌≡◌, ◌≢◌, ◌⊎◌, ℕ, ◌<◌, Bool, true, false, List, [], ◌∷◌, ◌++◌, ◌==◌, if◌then◌else◌, nat_lt, option_and_then, option_map, Option, Some, None, codes, length, refl, take}
use Rattle.std.specs.List.{after_last, before_last, last_or}
use Rattle.std.specs.Path.{dot}
use Rattle.hip_names.specs.Components.{Component, RootDir, Normal, components}

-- the first component is the root
abbrev pub is_rooted : List Component → Bool
is_rooted (RootDir ∷ rest) = true
is_rooted other = false

-- the path begins with the root (`Path::has_root`)
unfoldable pub has_root : List ℕ → Bool
has_root path = is_rooted (components path)

-- the name of a component that is one
abbrev pub name_of : Option Component → Option (List ℕ)
name_of (Some (Normal name)) = Some name
name_of other = None

-- the last component, if that is a name (`Path::file_name`)
unfoldable pub file_name : List ℕ → Option (List ℕ)
file_name path = name_of (last_or None (components path))

abbrev pub is_dot : ℕ → Bool
is_dot byte = byte == dot

-- a name has an extension where a byte stands before its last dot
abbrev pub has_extension : List ℕ → Bool
has_extension name = nat_lt 0 (length (before_last is_dot name))

-- a file name before its last dot, unless it begins with that (`Path::file_stem`)
abbrev pub stem_of : List ℕ → List ℕ
stem_of name = if has_extension name then before_last is_dot name else name

unfoldable pub file_stem : List ℕ → Option (List ℕ)
file_stem path = option_map stem_of (file_name path)

-- a file name behind its last dot, unless it begins with that (`Path::extension`)
abbrev pub extension_of : List ℕ → Option (List ℕ)
extension_of name = if has_extension name then Some (after_last is_dot name) else None

unfoldable pub extension : List ℕ → Option (List ℕ)
extension path = option_and_then extension_of (file_name path)

-- the components begin with these (`Path::starts_with`)
pub record BeginWith (cs front : List Component) : Type 0 where
  pub rest : List Component
  pub whole : cs ≡ front ++ rest

-- the components end with these (`Path::ends_with`)
pub record EndWith (cs back : List Component) : Type 0 where
  pub front : List Component
  pub whole : cs ≡ front ++ back

-- no shorter front of the path has its components: no slash and no `.` stands behind the last (`Components::as_path`)
abbrev pub IsTrimmed : List ℕ → Type 0
IsTrimmed path = (n : ℕ) → n < length path → components (take n path) ≢ components path

-- the front of a path that has all its components but the last, which isn't the root (`Path::parent`)
pub record IsParent (path parent : List ℕ) : Type 0 where
  pub front : take (length parent) path ≡ parent
  pub last : Component
  pub not_root : last ≢ RootDir
  pub others : components path ≡ components parent ++ last ∷ []
  pub trimmed : IsTrimmed parent

-- a path that is nothing but the root, or that has no component
abbrev pub HasNoParent : List ℕ → Type 0
HasNoParent path = (components path ≡ []) ⊎ (components path ≡ RootDir ∷ [])

-- `foo/` has the name `foo`, `foo.txt/..` has none
pub names_of_files : (file_name (codes "foo/") ≡ Some (codes "foo")) × (file_name (codes "foo.txt/.") ≡ Some (codes "foo.txt")) × (file_name (codes "foo.txt/..") ≡ None) × (file_name (codes "/") ≡ None)
unfolding file_name components
names_of_files = (refl, refl, refl, refl)

-- `.bashrc` is a stem without an extension, and only the last dot counts
pub stems : (file_stem (codes ".bashrc") ≡ Some (codes ".bashrc")) × (extension (codes ".bashrc") ≡ None) × (file_stem (codes "a.tar.gz") ≡ Some (codes "a.tar")) × (extension (codes "a.tar.gz") ≡ Some (codes "gz")) × (extension (codes "a.") ≡ Some [])
unfolding file_stem extension file_name components
stems = (refl, refl, refl, refl, refl)
