-- The cells of a column of a table, whose fields stand between commas (44).
use Rattle.std.specs.Prelude.{◌≡◌, ℕ, List, [], ◌∷◌, All, length, slice_index_or}
use Rattle.std.specs.List.{flat_map}
use Rattle.std.specs.String.{string_bytes}
use Rattle.hip_fields.specs.Records.{Texts, records_of}
use Rattle.hip_uses.specs.Cells.{IsFirstAt, IsNoColumn, ReadFails}
use Rattle.hip_uses.specs.Tools.{as_line}
use Rattle.hip_uses.specs.declared.fault.ToolFault.{ToolFault}
use Rattle.hip_uses.specs.declared.fault.ToolFault.TheVariants.{NoColumn, Table}

-- the field of each row at a place, a line each
abbrev pub cell_line : ℕ → Texts → List ℕ
cell_line place row = as_line (slice_index_or row place [])

abbrev pub cell_lines : ℕ → List Texts → List ℕ
cell_lines place rows = flat_map (cell_line place) rows

-- the first line of a text is the header of the others, the rows, each of which has as many fields
pub record IsTable (input : List ℕ) (header : Texts) (rows : List Texts) : Type 0 where
  pub read : records_of 44 input ≡ header ∷ rows
  pub even : All (λ row. length row ≡ length header) rows

-- the cells of the first column of this name, a line each
pub record IsColumn (name input text : List ℕ) : Type 0 where
  pub header : Texts
  pub rows : List Texts
  pub table : IsTable input header rows
  pub place : ℕ
  pub column : IsFirstAt header name place
  pub cells : text ≡ cell_lines place rows

-- the text is no table, or one without a column of this name
abbrev pub ColumnFails : List ℕ → List ℕ → ToolFault → Type 0
ColumnFails name input (Table fault) = ReadFails (records_of 44 input) fault
ColumnFails name input (NoColumn told) =
    (header : Texts) × (rows : List Texts) × IsTable input header rows × IsNoColumn header name × (string_bytes told ≡ name)
ColumnFails name input fault = ⊥
