-- A `Component`, and an iterator of them, as clauses see them.
use Rattle.std.specs.Prelude.{List, [], ◌∷◌, ◌++◌, Option, Some, None}
use Rattle.hip_names.specs.Components.{Component, RootDir, CurDir, ParentDir, Normal, names}
use Rattle.hip_names.specs.declared.component.Component.{Component as Code}
use Rattle.hip_names.specs.declared.component.Component.TheVariants.{RootDir as root, CurDir as current, ParentDir as parent, Normal as normal}
use Rattle.hip_names.specs.declared.component.Components.{Components}

-- the component, wherever its name lies
abbrev pub shown : Code → Component
shown root = RootDir
shown current = CurDir
shown parent = ParentDir
shown (normal name) = Normal name.now

abbrev pub all_shown : Option Code → List Component
all_shown None = []
all_shown (Some component) = shown component ∷ []

-- the components that are still to come
abbrev pub to_come : Components → List Component
to_come iterator = all_shown iterator.start ++ names iterator.rest.now
