-- A table: the bytes of its header and of its rows.
use Rattle.std.specs.Prelude.{◌≡◌, ◌≢◌, ◌⊎◌, ℕ, ◌+◌, ◌<◌, ◌≤◌, List, [], ◌∷◌, length, map, slice_get, Some}
use Rattle.std.specs.List.{AllByRecursion}
use Rattle.hipstr.specs.Handle.{Handle}
use Rattle.hipstr.specs.Made.{IsPart}
use Rattle.hip_fields.specs.Records.{Texts}
use Rattle.hip_uses.specs.declared.fault.TableFault.{TableFault}
use Rattle.hip_uses.specs.declared.fault.TableFault.TheVariants.{Empty, Ragged, Memory}

-- and the handles of all fields, the header's first
pub record Cells : Type 0 where
  pub header : Texts
  pub rows : List Texts
  pub fields : List (List Handle)

abbrev pub texts_of : List Handle → Texts
texts_of fields = map (λ field. field.items) fields

-- the name stands there, and at no place before
pub record IsFirstAt (header : Texts) (name : List ℕ) (place : ℕ) : Type 0 where
  pub at : slice_get header place ≡ Some name
  pub first : (k : ℕ) → k < place → slice_get header k ≢ Some name

abbrev pub IsNoColumn : Texts → List ℕ → Type 0
IsNoColumn header name = (k : ℕ) → slice_get header k ≢ Some name

-- the row's field at the place of the name
abbrev pub HasCell : Cells → ℕ → List ℕ → List ℕ → Type 0
HasCell table row name cell =
    (place : ℕ) × (fields : Texts) × IsFirstAt table.header name place × (slice_get table.rows row ≡ Some fields) × (slice_get fields place ≡ Some cell)

-- no column has the name, or there is no such row
abbrev pub HasNoCell : Cells → ℕ → List ℕ → Type 0
HasNoCell table row name = IsNoColumn table.header name ⊎ (length table.rows ≤ row)

-- the row's field at a place
abbrev pub HasCellAt : Cells → ℕ → ℕ → List ℕ → Type 0
HasCellAt table row place cell = (fields : Texts) × (slice_get table.rows row ≡ Some fields) × (slice_get fields place ≡ Some cell)

-- the handle of the row's field at a place
abbrev pub IsFieldAt : Cells → ℕ → ℕ → Handle → Type 0
IsFieldAt table row place cell = (fields : List Handle) × (slice_get table.fields (row + 1) ≡ Some fields) × (slice_get fields place ≡ Some cell)

-- each is the source's part of its bytes: its kind goes by the source's
abbrev pub AllParts : Handle → List (List Handle) → Type 0
AllParts source rows = AllByRecursion (λ row. AllByRecursion (λ field. IsPart source field field.items) row) rows

-- there is no such column, or no such row
abbrev pub HasNoCellAt : Cells → ℕ → ℕ → Type 0
HasNoCellAt table row place = (length table.header ≤ place) ⊎ (length table.rows ≤ row)

-- this line, counted from 1, is the first that has another number of fields than the header
pub record IsRagged (header : Texts) (rows : List Texts) (line : ℕ) : Type 0 where
  pub row : ℕ
  pub fields : Texts
  pub line_is : line ≡ row + 2
  pub at : slice_get rows row ≡ Some fields
  pub other : length fields ≢ length header
  pub before : (k : ℕ) (even : Texts) → k < row → slice_get rows k ≡ Some even → length even ≡ length header

abbrev pub ReadFails : List Texts → TableFault → Type 0
ReadFails records Empty = records ≡ []
ReadFails records (Ragged line) = (header : Texts) × (rows : List Texts) × (records ≡ header ∷ rows) × IsRagged header rows line
ReadFails records Memory = Unit {0}
