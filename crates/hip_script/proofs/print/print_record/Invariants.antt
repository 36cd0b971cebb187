use Rattle.std.proofs.Common.{◌++◌, codes, map, take}
use Rattle.std.specs.{Io.KnownBytes.Appends, List.flat_map}
use Rattle.hip_script.specs.{Printed.printed_field, Said.items_of}
use Rattle.hip_script.proofs.print.print_record.Given as goal

abbrev pub invariant-loop-field : goal.invariant-loop-field
invariant-loop-field g l =
    Appends (g.W.Write.contents l.fn.out) (g.W.Write.contents l.out) (codes "record" ++ flat_map printed_field (map items_of (take l.field-index l.fields)))
