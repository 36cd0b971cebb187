use Rattle.std.proofs.Common.{map, take}
use Rattle.std.specs.Io.KnownBytes.{Appends}
use Rattle.hip_script.specs.{Printed.printed_records, Said.texts_of}
use Rattle.hip_script.proofs.print.print_records.Given as goal

abbrev pub invariant-loop-fields : goal.invariant-loop-fields
invariant-loop-fields g l =
    Appends (g.W.Write.contents l.fn.out) (g.W.Write.contents l.out) (printed_records (map texts_of (take l.fields-index l.records)))
