-- The bytes that a path feeds a hasher: the length and the text of each component, and a length of 0 behind the last. So paths with the
-- same components feed the same.
use Rattle.std.specs.Prelude.{◌≡◌, ℕ, List, [], ◌∷◌, ◌++◌, length, codes, refl}
use Rattle.std.specs.Hash as fed
use Rattle.std.specs.Hash.{HashWrites}
use Rattle.std.specs.List.{flat_map}
use Rattle.std.specs.Path.{root_dir, cur_dir, parent_dir}
use Rattle.hip_names.specs.Components.{Component, RootDir, CurDir, ParentDir, Normal, components}

-- the text of a component (Rust's `Component::as_os_str`)
abbrev pub component_text : Component → List ℕ
component_text RootDir = root_dir
component_text CurDir = cur_dir
component_text ParentDir = parent_dir
component_text (Normal name) = name

abbrev pub component_fed : Component → HashWrites
component_fed component = fed.usize (length (component_text component)) ++ component_text component ∷ []

abbrev pub all_fed : List Component → HashWrites
all_fed cs = flat_map component_fed cs ++ fed.usize 0

unfoldable pub path_fed : List ℕ → HashWrites
path_fed path = all_fed (components path)

-- `a//b` and `a/./b` feed the same
pub fed_alike : path_fed (codes "a//b") ≡ path_fed (codes "a/./b")
unfolding components path_fed
fed_alike = refl
