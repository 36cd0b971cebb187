use Rattle.std.proofs.Common.{◌++◌, codes, map}
use Rattle.std.specs.List.{flat_map}
use Rattle.hip_script.specs.{Printed.printed_field, Said.items_of}
use Rattle.hip_script.proofs.Appended.{appends-all, appends-next}
use Rattle.hip_script.proofs.Printing.{front-of, front-within-view, prints-cut, prints-then}
use Rattle.hip_script.proofs.print.print_record.Goals as goal

pub returns-in_err-write : goal.returns-in_err-write
returns-in_err-write g c = prints-cut _ _ _ _ c.from_residual.ensures.0 (front-of _ _ (codes "record") (flat_map printed_field (map items_of c.args.fields.now) ++ codes "\n") c.in_err-write.ensures)

pub loop-field-init : goal.loop-field-init
loop-field-init g c = c.in_ok-write.ensures

pub loop-field-preserved : goal.loop-field-preserved
loop-field-preserved g c =
    appends-next items_of printed_field (codes "record") c.args.fields.now c.loop-field.field-index _ _ _ c.field-item.result _ c.loop-field-test.true c.field-item.is c.as_bytes.ensures.items
    c.loop-field.invariant c.in_ok-print_field.ensures

pub returns-in_err-print_field : goal.returns-in_err-print_field
returns-in_err-print_field g c =
    prints-cut _ _ _ _ c.from_residual-in_err-print_field.ensures.0 (front-of _ _ (codes "record" ++ flat_map printed_field (map items_of c.args.fields.now)) (codes "\n")
    (front-within-view items_of printed_field (codes "record") c.args.fields.now c.loop-field.field-index c.field-item.result _ _ _ _ c.loop-field-test.true c.field-item.is c.as_bytes.ensures.items
    c.loop-field.invariant c.in_err-print_field.ensures))

pub returns : goal.returns
returns g c =
    prints-then _ _ _ (codes "record" ++ flat_map printed_field (map items_of c.args.fields.now)) (codes "\n") c.write-2.result
    (appends-all items_of printed_field (codes "record") c.args.fields.now c.loop-field.field-index _ _ c.loop-field-test.false c.loop-field.invariant) c.write-2.ensures
