-- The cells of a column, one after another.
use Rattle.std.proofs.Common.{◌≡◌, ◌∙◌, ℕ, ◌+◌, ◌<◌, List, [], ◌∷◌, ◌++◌, Option, Some, length, take, ap, sym, subst, arith, slice_get, slice_index_or, IsUtf8}
use Rattle.std.proofs.lemmas.List.{flat_map_more, take_more}
use Rattle.std.proofs.lemmas.Option.{gets}
use Rattle.std.specs.Io.KnownBytes.{Appends}
use Rattle.hip_fields.specs.Records.{Texts, records_of}
use Rattle.hip_uses.specs.Column.{ColumnFails, cell_line, cell_lines}
use Rattle.hip_uses.specs.Cells.{Cells, HasCellAt, IsFirstAt, ReadFails}
use Rattle.hip_uses.specs.Tools.{InputFails, as_line, of_table}
use Rattle.hip_uses.specs.declared.fault.TableFault.{TableFault}
use Rattle.hip_uses.specs.declared.fault.TableFault.TheVariants.{Empty, Ragged, Memory as no_memory}
use Rattle.hip_uses.proofs.Appended.{appends-then}

cell-is : (fields : Texts) (place : ℕ) (cell : List ℕ) → slice_get fields place ≡ Some cell → slice_index_or fields place [] ≡ cell
cell-is fields place cell is = grind (arith, gets)

row-is : (rows : List Texts) (row : ℕ) (fields : Texts) → slice_get rows row ≡ Some fields → take (row + 1) rows ≡ take row rows ++ fields ∷ []
row-is rows row fields is = grind (arith, gets, take_more rows row fields)

pub cells-next : (table : Cells) (row place : ℕ) (cell : List ℕ) (old mid new : Option (List ℕ)) → HasCellAt table row place cell
    → Appends old mid (cell_lines place (take row table.rows)) → Appends mid new (as_line cell) → Appends old new (cell_lines place (take (row + 1) table.rows))
cells-next table row place cell old mid new there so_far next =
    subst (Appends old new)
    (flat_map_more (cell_line place) [] (take row table.rows) there.0 ∙ ap (cell_lines place) (sym (row-is table.rows row there.0 there.1)))
    (appends-then old mid new _ _ so_far (subst (λ c. Appends mid new (as_line c)) (sym (cell-is there.0 place cell there.2)) next))

-- the fault of a text that is no table
pub table-fails : (name input : List ℕ) (fault : TableFault) → IsUtf8 input → ReadFails (records_of 44 input) fault → InputFails (ColumnFails name input) input (of_table fault)
table-fails name input Empty utf8 fails = (utf8, fails)
table-fails name input (Ragged line) utf8 fails = (utf8, fails)
table-fails name input no_memory utf8 fails = tt

-- a column's place is one of the header's
pub column-within : (header : Texts) (name : List ℕ) (place : ℕ) → IsFirstAt header name place → place < length header
column-within header name place first = let at = first.at in grind (arith, gets)
