-- A text that is filled as a template, and its faults by their lines.
use Rattle.std.specs.Prelude.{◌≡◌, ◌≢◌, ℕ, ◌+◌, List, ◌∷◌, ◌++◌, length, None, IsSome, All}
use Rattle.std.specs.List.{flat_map}
use Rattle.std.specs.String.{string_bytes}
use Rattle.hipstr.specs.Handle.{Handle}
use Rattle.hipstr.specs.Parted.{IsParted, Lacks}
use Rattle.hip_uses.specs.Template.{AreHoles, HoleBytes, bytes_filled, bytes_written, closing, opening, value_of, written}
use Rattle.hip_uses.specs.Tools.{line_at}
use Rattle.hip_uses.specs.declared.fault.ToolFault.{ToolFault}
use Rattle.hip_uses.specs.declared.fault.ToolFault.TheVariants.{Memory, Unclosed, Unknown}
use Rattle.hip_uses.specs.declared.template.Hole.{Hole}

-- something goes under the name of each hole
abbrev pub AllFilled : List (Handle × Handle) → List HoleBytes → Type 0
AllFilled values holes = All (λ hole. IsSome (value_of values hole.name)) holes

-- the text with each hole's value in its place
pub record IsFilled (values : List (Handle × Handle)) (input text : List ℕ) : Type 0 where
  pub holes : List HoleBytes
  pub rest : List ℕ
  pub cut : AreHoles input holes rest
  pub lacks : Lacks opening rest
  pub known : AllFilled values holes
  pub filled : text ≡ flat_map (bytes_filled values) holes ++ rest

-- behind some holes no `}}` follows the next `{{`, which stands on this line
pub record IsUnclosedAt (input : List ℕ) (line : ℕ) : Type 0 where
  pub holes : List HoleBytes
  pub rest : List ℕ
  pub before : List ℕ
  pub behind : List ℕ
  pub cut : AreHoles input holes rest
  pub opens : IsParted opening rest before behind
  pub lacks : Lacks closing behind
  pub line_is : line ≡ line_at input (length (flat_map bytes_written holes) + length before)

-- the first hole under whose name nothing goes has this name, and stands on this line
pub record IsUnknownAt (values : List (Handle × Handle)) (input : List ℕ) (line : ℕ) (name : List ℕ) : Type 0 where
  pub before : List HoleBytes
  pub hole : HoleBytes
  pub after : List HoleBytes
  pub rest : List ℕ
  pub cut : AreHoles input (before ++ hole ∷ after) rest
  pub lacks : Lacks opening rest
  pub known : AllFilled values before
  pub named : hole.name ≡ name
  pub none : value_of values name ≡ None
  pub line_is : line ≡ line_at input (length (flat_map bytes_written before) + length hole.before)

abbrev pub FillTells : List (Handle × Handle) → List ℕ → ToolFault → Type 0
FillTells values input (Unclosed line) = IsUnclosedAt input line
FillTells values input (Unknown line name) = IsUnknownAt values input line (string_bytes name)
FillTells values input fault = ⊥

-- the fault of a template that isn't parsed. Only private functions cite these
abbrev pub ParseTells : List ℕ → ToolFault → Type 0
ParseTells input (Unclosed line) = IsUnclosedAt input line
ParseTells input Memory = Unit {0}
ParseTells input fault = ⊥

-- that of one that is, and isn't filled
abbrev pub UnknownTells : List (Handle × Handle) → List ℕ → ToolFault → Type 0
UnknownTells values input (Unknown line name) = IsUnknownAt values input line (string_bytes name)
UnknownTells values input Memory = Unit {0}
UnknownTells values input fault = ⊥

-- where the first hole of a name begins, as the template is written
abbrev pub IsPlaceOf : {B S P : Type 0} → List (Hole B S P) → List ℕ → ℕ → Type 0
IsPlaceOf {B} {S} {P} holes name place =
    (before : List (Hole B S P)) (hole : Hole B S P) (after : List (Hole B S P)) → holes ≡ before ++ hole ∷ after → All (λ other. other.name.items ≢ name) before → hole.name.items ≡ name
    → place ≡ length (written before) + length hole.before.items
