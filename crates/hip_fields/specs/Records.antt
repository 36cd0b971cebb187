-- The records of a text: for each line, as Rust's `lines` gives them, the pieces of that line between a character, as Rust's `split` does.
use Rattle.std.specs.Prelude.{◌≡◌, ℕ, ◌+◌, ◌==◌, Bool, List, [], ◌∷◌, map, length, Option, None, Some, Result, IfOk, Vec}
use Rattle.std.specs.declared.alloc.Global.{Global}
use Rattle.hip_text.specs.Handle.{Handle}
use Rattle.hip_text.specs.Cost.{cut_cost}
use Rattle.hip_text.specs.Made.{IsPart}
use Rattle.hip_text.specs.Meter.{RisesAtMost}
use Rattle.hip_bytes.specs.declared.kind.Kind.{Kind}
use Rattle.hip_match.specs.Characters.{char_ends}
use Rattle.hip_match.specs.Joined.{parts_at}
use Rattle.hip_match.specs.Pieces.{split}
use Rattle.hip_match.specs.Runs.{lines}

-- the bytes of each field of a record
abbrev pub Texts : Type 0
Texts = List (List ℕ)

-- the bytes of each field of a line
abbrev pub fields_of : ℕ → List ℕ → Texts
fields_of separator line = parts_at line (split (char_ends (λ c. c == separator) line) (length line))

-- the records of a text, one for each line
abbrev pub records_of : ℕ → List ℕ → List Texts
records_of separator text = map (fields_of separator) (parts_at text (lines text))

-- the handles are parts of the source with these bytes, one after another
abbrev pub AreFields : Handle → Texts → List Handle → Type 0
AreFields source [] fields = fields ≡ []
AreFields source (text ∷ texts) [] = ⊥
AreFields source (text ∷ texts) (field ∷ fields) = IsPart source field text × AreFields source texts fields

-- each record's handles are parts of the source with the bytes of its fields
abbrev pub AreRecords : Handle → List Texts → List (Vec Handle Global) → Type 0
AreRecords source [] records = records ≡ []
AreRecords source (texts ∷ more) [] = ⊥
AreRecords source (texts ∷ more) (fields ∷ records) = AreFields source texts fields.items × AreRecords source more records

-- the greatest number of bytes that the fields of a line copy: the cost of its parts
abbrev pub fields_cost : Bool → Kind → Texts → ℕ
fields_cost shares kind [] = 0
fields_cost shares kind (text ∷ texts) = cut_cost shares kind (length text) + fields_cost shares kind texts

-- the greatest number of bytes that the fields of all lines copy
abbrev pub records_cost : Bool → Kind → List Texts → ℕ
records_cost shares kind [] = 0
records_cost shares kind (texts ∷ more) = fields_cost shares kind texts + records_cost shares kind more

-- the records that a reader has still to give: those of a text, as the bytes of their fields
pub record RecordsLeft : Type 0 where
  pub source : Handle
  pub rest : List Texts

-- the first of the records that were left, or nothing where none was. A record that is refused for memory has been passed
abbrev pub FirstRecord : {E : Type 0} → RecordsLeft → Option (Result (Vec Handle Global) E) → RecordsLeft → Type 0
FirstRecord old None new = (old.rest ≡ []) × (new.rest ≡ [])
FirstRecord old (Some drawn) new =
    (texts : Texts) × (old.rest ≡ texts ∷ new.rest) × IfOk drawn (λ fields. AreFields old.source texts fields.items)

-- how far a meter rises by drawing it: by no more than its fields cost
abbrev pub FirstRecordCosts : {T : Type 0} → Bool → RecordsLeft → Option T → RecordsLeft → ℕ → ℕ → Type 0
FirstRecordCosts shares old None new before after = after ≡ before
FirstRecordCosts shares old (Some drawn) new before after =
    (texts : Texts) × (old.rest ≡ texts ∷ new.rest) × RisesAtMost before after (fields_cost shares old.source.kind texts)
