-- A path that is displayed, as clauses see it.
use Rattle.std.specs.Prelude.{ℕ, List}
use Rattle.hip_names.specs.declared.hip_path.display.Display.{Display}

-- the bytes of the path
abbrev pub displayed : Display → List ℕ
displayed display = display.path.now
