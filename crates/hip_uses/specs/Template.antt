-- A template, as it is written and as it is filled.
use Rattle.std.specs.Prelude.{◌≡◌, ℕ, ◌+◌, ◌<◌, ◌≤◌, nat_eq, List, [], ◌∷◌, ◌++◌, length, slice_index, Option, None, Some, IsSome, MatchOption, All, codes, map, if◌then◌else◌}
use Rattle.std.specs.List.{flat_map}
use Rattle.std.specs.Map.{lookup}
use Rattle.std.specs.Borrow.{Bor}
use Rattle.std.specs.Option.{option_map_or}
use Rattle.std.specs.Cmp.Lexicographic.{pointwise}
use Rattle.hipstr.specs.Handle.{Handle}
use Rattle.hipstr.specs.Made.{IsPart}
use Rattle.hipstr.specs.Occurrence.{StartsFirst}
use Rattle.hipstr.specs.Parted.{IsParted, Lacks}
use Rattle.hip_fields.specs.Records.{Texts}
use Rattle.hip_uses.specs.Number.{text_bytes}
use Rattle.hip_uses.specs.declared.template.Hole.{Hole}
use Rattle.hip_uses.specs.declared.fault.TemplateFault.{TemplateFault}
use Rattle.hip_uses.specs.declared.fault.TemplateFault.TheVariants.{Unclosed, Unknown, Memory}

abbrev pub opening : List ℕ
opening = codes "{{"

abbrev pub closing : List ℕ
closing = codes "}}"

-- a hole by its bytes: the text between it and the one before, and its name
pub record HoleBytes : Type 0 where
  pub before : List ℕ
  pub name : List ℕ

abbrev pub hole_bytes : {B S P : Type 0} → Hole B S P → HoleBytes
hole_bytes hole = record { before = hole.before.items; name = hole.name.items }

-- a hole at the front of a text, with what lies before it and behind it: it opens at the first `{{` and ends at the first `}}` behind that
abbrev pub IsHole : List ℕ → HoleBytes → List ℕ → Type 0
IsHole text hole after = (behind : List ℕ) × IsParted opening text hole.before behind × IsParted closing behind hole.name after

-- holes one behind another, and what lies behind the last
abbrev pub AreHoles : List ℕ → List HoleBytes → List ℕ → Type 0
AreHoles text [] after = after ≡ text
AreHoles text (hole ∷ holes) after = (behind : List ℕ) × IsHole text hole behind × AreHoles behind holes after

abbrev pub CutsHole : {B S P : Type 0} → List ℕ → Hole B S P → List ℕ → Type 0
CutsHole text hole after = IsHole text (hole_bytes hole) after

abbrev pub CutsHoles : {B S P : Type 0} → List ℕ → List (Hole B S P) → List ℕ → Type 0
CutsHoles text holes after = AreHoles text (map hole_bytes holes) after

-- the text is cut at its holes, up to a rest without `{{`
abbrev pub IsParsed : {B S P : Type 0} → List ℕ → List (Hole B S P) → List ℕ → Type 0
IsParsed text holes rest = CutsHoles text holes rest × Lacks opening rest

-- a hole and what lies before it, as they are written
abbrev pub bytes_written : HoleBytes → List ℕ
bytes_written hole = hole.before ++ (opening ++ (hole.name ++ closing))

abbrev pub hole_written : {B S P : Type 0} → Hole B S P → List ℕ
hole_written hole = bytes_written (hole_bytes hole)

abbrev pub written : {B S P : Type 0} → List (Hole B S P) → List ℕ
written holes = flat_map hole_written holes

-- each of both is the source's part of its bytes: its kind goes by the source's
pub record AreParts {B S P : Type 0} (source : Handle) (hole : Hole B S P) : Type 0 where
  pub before : IsPart source hole.before hole.before.items
  pub name : IsPart source hole.name hole.name.items

-- the bytes of a hole's handles, and of a template's
abbrev pub hole_texts : {B S P : Type 0} → Hole B S P → Texts
hole_texts hole = hole.before.items ∷ hole.name.items ∷ []

abbrev pub template_texts : {B S P : Type 0} → List (Hole B S P) → Handle → Texts
template_texts holes rest = flat_map hole_texts holes ++ rest.items ∷ []

-- the value under a name
abbrev pub value_of : List (Handle × Handle) → List ℕ → Option Handle
value_of values name = lookup (λ key. pointwise nat_eq name key.items) values

-- the value under a name once another value is set
abbrev pub value_with : List (Handle × Handle) → List ℕ → Handle → List ℕ → Option Handle
value_with values name value other = if pointwise nat_eq name other then Some value else value_of values other

-- a hole that is filled, with what lies before it
abbrev pub bytes_filled : List (Handle × Handle) → HoleBytes → List ℕ
bytes_filled values hole = hole.before ++ option_map_or text_bytes (value_of values hole.name) []

abbrev pub hole_filled : {B S P : Type 0} → List (Handle × Handle) → Hole B S P → List ℕ
hole_filled values hole = bytes_filled values (hole_bytes hole)

-- the bytes of lent texts, one by one
abbrev pub all_shown : List (Bor (List ℕ)) → List (List ℕ)
all_shown texts = map (λ text. text.now) texts

-- the bytes of a hole's value
abbrev pub value_in : {B S P : Type 0} → List (Handle × Handle) → Hole B S P → List ℕ
value_in values hole = option_map_or text_bytes (value_of values hole.name.items) []

-- the text before a hole, and its value
abbrev pub hole_pieces : {B S P : Type 0} → List (Handle × Handle) → Hole B S P → List (List ℕ)
hole_pieces values hole = hole.before.items ∷ value_in values hole ∷ []

-- the text before each hole, and its value
abbrev pub woven : {B S P : Type 0} → List (Handle × Handle) → List (Hole B S P) → List (List ℕ)
woven values holes = flat_map (hole_pieces values) holes

abbrev pub filled : {B S P : Type 0} → List (Handle × Handle) → List (Hole B S P) → List ℕ
filled values holes = flat_map (hole_filled values) holes

-- each name has a value
abbrev pub AllKnown : {B S P : Type 0} → List (Handle × Handle) → List (Hole B S P) → Type 0
AllKnown values holes = All (λ hole. IsSome (value_of values hole.name.items)) holes

-- behind some holes, no `}}` follows the next `{{`: the fault tells what lies behind that
abbrev pub ParseFails : {B S P : Type 0} → List ℕ → TemplateFault B S P → Type 0
ParseFails {B} {S} {P} template (Unclosed text) =
    (holes : List (Hole B S P)) × (rest : List ℕ) × (before : List ℕ) × CutsHoles template holes rest
    × IsParted opening rest before text.items × Lacks closing text.items
ParseFails template (Unknown name) = ⊥
ParseFails template Memory = Unit {0}

-- this byte stands at a place of a text
abbrev pub HasByte : List ℕ → ℕ → ℕ → Type 0
HasByte text at byte = (at < length text) × (slice_index text at ≡ byte)

-- two of this brace stand at a place of a text
pub record IsPair (text : List ℕ) (brace k : ℕ) : Type 0 where
  pub within : k + 1 < length text
  pub first : slice_index text k ≡ brace
  pub second : slice_index text (k + 1) ≡ brace

-- the first place at or after `from` where two of this brace stand
pub record IsFirstPair (text : List ℕ) (brace from at : ℕ) : Type 0 where
  pub after : from ≤ at
  pub is : IsPair text brace at
  pub first : (k : ℕ) → from ≤ k → k < at → ¬ IsPair text brace k

-- that place, if there is one
abbrev pub IsNextPair : List ℕ → ℕ → ℕ → Option ℕ → Type 0
IsNextPair text brace from result = MatchOption result ((k : ℕ) → from ≤ k → ¬ IsPair text brace k) (IsFirstPair text brace from)

-- the first place at or after `from` where a pattern occurs, if there is one
abbrev pub IsNextStart : (ℕ → Option ℕ) → ℕ → Option ℕ → Type 0
IsNextStart ends from result = MatchOption result ((k : ℕ) → from ≤ k → ends k ≡ None) (λ start. (end : ℕ) × StartsFirst ends from (start, end))

-- the fault tells this name, or that memory was refused
abbrev pub IsUnknown : {B S P : Type 0} → List ℕ → TemplateFault B S P → Type 0
IsUnknown name (Unclosed text) = ⊥
IsUnknown name (Unknown unknown) = unknown.items ≡ name
IsUnknown name Memory = Unit {0}

-- the hole has this name, which has no value
abbrev pub HoleFails : {B S P : Type 0} → List (Handle × Handle) → Hole B S P → TemplateFault B S P → Type 0
HoleFails values hole (Unclosed text) = ⊥
HoleFails values hole (Unknown name) = (value_of values name.items ≡ None) × (hole.name.items ≡ name.items)
HoleFails values hole Memory = Unit {0}

-- the first hole that can't be filled has this name, which has no value
abbrev pub FillFails : {B S P : Type 0} → List (Handle × Handle) → List (Hole B S P) → TemplateFault B S P → Type 0
FillFails values holes (Unclosed text) = ⊥
FillFails {B} {S} {P} values holes (Unknown name) =
    (before : List (Hole B S P)) × (hole : Hole B S P) × (after : List (Hole B S P)) × (holes ≡ before ++ hole ∷ after)
    × AllKnown values before × HoleFails values hole (Unknown name)
FillFails values holes Memory = Unit {0}
