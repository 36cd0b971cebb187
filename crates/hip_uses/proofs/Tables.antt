-- Tables that are read.
use Rattle.std.proofs.Common.{◌≡◌, ℕ, ◌+◌, ◌<◌, List, [], ◌∷◌, Option, Some, Result, Ok, length, map, get_or, vec_len, ap, sym, subst, arith, All, MatchOption, Vec, slice_get, Global}
use Rattle.std.proofs.lemmas.List.{get_or-map, length-map}
use Rattle.std.proofs.lemmas.Option.{gets, slice_get-map}
use Rattle.std.specs.List.{AllByRecursion}
use Rattle.hipstr.specs.Handle.{Handle}
use Rattle.hipstr.specs.Made.{IsPart}
use Rattle.hip_fields.specs.Records.{AreFields, AreRecords, FirstRecord, RecordsLeft, Texts}
use Rattle.hip_uses.specs.Cells.{AllParts, Cells, HasCell, HasCellAt, HasNoCell, HasNoCellAt, IsFirstAt, IsRagged, texts_of}

-- the bytes of the fields of a record
abbrev pub row_of : Vec Handle Global → Texts
row_of row = texts_of row.items

pub AreFields-texts : (source : Handle) (texts : Texts) (fields : List Handle) → AreFields source texts fields → texts_of fields ≡ texts
AreFields-texts source [] fields are = ap texts_of are
AreFields-texts source (text ∷ texts) fields are = grind (arith, AreFields-texts source texts)

fields-parts : (source : Handle) (texts : Texts) (fields : List Handle) → AreFields source texts fields → AllByRecursion (λ field. IsPart source field field.items) fields
fields-parts source [] fields are = rw are tt
fields-parts source (text ∷ texts) [] are = absurd are
fields-parts source (text ∷ texts) (field ∷ fields) are = (subst (IsPart source field) (sym are.0.items_are) are.0, fields-parts source texts fields are.1)

records-parts : (source : Handle) (records : List Texts) (rows : List (Vec Handle Global)) → AreRecords source records rows → AllParts source (map (λ row. row.items) rows)
records-parts source [] rows are = rw are tt
records-parts source (texts ∷ more) [] are = absurd are
records-parts source (texts ∷ more) (row ∷ rows) are = (fields-parts source texts row.items are.0, records-parts source more rows are.1)

-- each field of a table is a part of its source
pub table-parts : (E : Type 0) (old new : RecordsLeft) (drawn : Result (Vec Handle Global) E) (header : Vec Handle Global) (rows : List (Vec Handle Global)) → new.source ≡ old.source
    → FirstRecord old (Some drawn) new → drawn ≡ Ok header → AreRecords new.source new.rest rows → AllParts old.source (header.items ∷ map (λ row. row.items) rows)
table-parts E old new drawn header rows same first was left =
    let here : AreFields old.source first.0 header.items = rw was at first.2 in
    (fields-parts old.source first.0 header.items here, subst (λ (s : Handle). AllParts s (map (λ (row : Vec Handle Global). row.items) rows)) same (records-parts new.source new.rest rows left))

pub AreRecords-texts : (source : Handle) (records : List Texts) (rows : List (Vec Handle Global)) → AreRecords source records rows → map row_of rows ≡ records
AreRecords-texts source [] rows are = ap (map row_of) are
AreRecords-texts source (texts ∷ more) rows are = grind (arith, AreFields-texts, AreRecords-texts source more)

-- what a list's items become, at a place
pub at-place : {X Y : Type 0} (f : X → Y) (xs : List X) (k : ℕ) (x : X) → k < length xs → x ≡ get_or xs k x → slice_get (map f xs) k ≡ Some (f x)
at-place f xs k x within is = grind (arith, gets, slice_get-map)

-- the first row that has another number of fields
pub ragged : (header : Vec Handle Global) (rows : List (Vec Handle Global)) (i : ℕ) (row : Vec Handle Global) → i < length rows → row ≡ get_or rows i row
    → (vec_len row ≡ vec_len header → ⊥) → ((k : ℕ) (other : Vec Handle Global) → k < i → vec_len (get_or rows k other) ≡ vec_len header)
    → IsRagged (row_of header) (map row_of rows) (i + 2)
ragged header rows i row within is other before = grind (arith, at-place row_of rows, gets, slice_get-map, length-map)

-- each row has as many fields as the header
pub even-rows : (header : Vec Handle Global) (rows : List (Vec Handle Global)) → All (λ (row : Vec Handle Global). vec_len row ≡ vec_len header) rows
    → All (λ (row : Texts). length row ≡ length (row_of header)) (map row_of rows)
even-rows header rows even k other low = grind (arith, get_or-map row_of rows k header other, length-map, even k header)

-- the first of the records, and the others, are all of them
pub read-whole : (E : Type 0) (all : List Texts) (old new : RecordsLeft) (drawn : Result (Vec Handle Global) E) (header : Vec Handle Global) (rows : List (Vec Handle Global)) → old.rest ≡ all
    → FirstRecord old (Some drawn) new → drawn ≡ Ok header → AreRecords new.source new.rest rows → all ≡ row_of header ∷ map row_of rows
read-whole E all old new drawn header rows is first was left = grind (arith, AreFields-texts, AreRecords-texts)

-- the cell at the place of a name
pub by-name : {X : Type 0} (items : X → List ℕ) (table : Cells) (row : ℕ) (name : List ℕ) (place : ℕ) → IsFirstAt table.header name place → (found : Option X)
    → MatchOption found (HasNoCellAt table row place) (λ cell. HasCellAt table row place (items cell)) → MatchOption found (HasNoCell table row name) (λ cell. HasCell table row name (items cell))
by-name items table row name place first found there = grind (arith, gets)

pub ruleset tables = (gets, slice_get-map, length-map, AreFields-texts, AreRecords-texts)
