-- Sets of characters of ASCII, as tables of truths.
use Rattle.std.specs.Prelude.{ℕ, Bool, false, ◌&&◌, get_or}
use Rattle.std.specs.Char.{is_ascii}
use Rattle.own_pattern.specs.declared.table.TruthTable.{TruthTable}

-- whether the character c is one of the table's
abbrev pub in_table : TruthTable → ℕ → Bool
in_table table c = is_ascii c && get_or table.has c false
