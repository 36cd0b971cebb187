use Rattle.std.proofs.Common.{[], ap, map}
use Rattle.hip_script.specs.{Printed.printed_record, Said.items_of, Said.texts_of}
use Rattle.hip_script.proofs.Appended.{appends-all, appends-next}
use Rattle.hip_script.proofs.Printing.{front-within-view, prints-cut}
use Rattle.hip_script.proofs.print.print_records.Goals as goal

pub loop-fields-preserved : goal.loop-fields-preserved
loop-fields-preserved g c =
    appends-next texts_of printed_record [] c.args.records.now c.loop-fields.fields-index _ _ _ c.fields-item.result _ c.loop-fields-test.true c.fields-item.is (ap (map items_of) c.deref.ensures.value)
    c.loop-fields.invariant c.in_ok-print_record.ensures

pub returns-in_err-print_record : goal.returns-in_err-print_record
returns-in_err-print_record g c =
    prints-cut _ _ _ _ c.from_residual.ensures.0
    (front-within-view texts_of printed_record [] c.args.records.now c.loop-fields.fields-index c.fields-item.result _ _ _ _ c.loop-fields-test.true c.fields-item.is (ap (map items_of) c.deref.ensures.value)
    c.loop-fields.invariant c.in_err-print_record.ensures)

pub returns : goal.returns
returns g c = appends-all texts_of printed_record [] c.args.records.now c.loop-fields.fields-index _ _ c.loop-fields-test.false c.loop-fields.invariant
