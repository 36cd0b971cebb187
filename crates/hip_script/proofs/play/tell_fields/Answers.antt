use Rattle.std.proofs.{Common.codes, Common.rules, Common.map, lemmas.Bool.false≢true}
use Rattle.hip_script.specs.{Printed.printed_records, Said.texts_of}
use Rattle.hip_script.proofs.FieldTexts.{fields-no-memory, fields-no-slot, fields-no-text, fields-text}
use Rattle.hip_script.proofs.play.tell_fields.Goals as goal

pub returns-in-Ok-clause-prints : goal.returns-in-Ok-clause-prints
returns-in-Ok-clause-prints g c = (
  printed_records (map texts_of c.as_slice.result.now),
  fields-text c.args.pool.now c.args.slot c.args.separator c.in-Some-Text.text _ _ (search rules) (search rules) (search rules) c.as_slice.ensures.value,
  c.print_records.ensures,
)

pub returns-in-Err-clause-prints : goal.returns-in-Err-clause-prints
returns-in-Err-clause-prints g c = (
  codes "refused Memory\n",
  fields-no-memory c.args.pool.now c.args.slot c.args.separator c.in-Some-Text.text (search rules) (search rules) (λ none. false≢true (c.in-Err.ensures.no_lines none)),
  c.write.ensures,
)

pub returns-in-Some-Bytes-clause-prints : goal.returns-in-Some-Bytes-clause-prints
returns-in-Some-Bytes-clause-prints g c = (
  codes "refused NotText\n",
  fields-no-text c.args.pool.now c.args.slot c.args.separator c.in-Some-Bytes.field-0-0 (search rules) (search rules),
  c.write-in-Some-Bytes.ensures,
)

pub returns-in-None-clause-prints : goal.returns-in-None-clause-prints
returns-in-None-clause-prints g c = (codes "refused NoSlot\n", fields-no-slot c.args.pool.now c.args.slot c.args.separator c.in-None.ensures.found.1, c.write-in-None.ensures)
