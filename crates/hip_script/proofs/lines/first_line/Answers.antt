use Rattle.std.proofs.Common.{rules, ◌+◌, add-one}
use Rattle.std.proofs.lemmas.List.{take_rest}
use Rattle.hip_script.proofs.{Bytes.found-at, Bytes.found-nowhere, LineLaws.first_line-ends, LineLaws.last_line}
use Rattle.hip_script.proofs.lines.first_line.Goals as goal

pub returns-in_default-clause-line : goal.returns-in_default-clause-line
returns-in_default-clause-line c =
    let text = c.args.text.now in
    last_line text (search rules) (found-nowhere 10 text c.in_default.ensures)

pub returns-clause-line : goal.returns-clause-line
returns-clause-line c =
    let text = c.args.text.now in
    let at = c.in-Some.at in
    rw (take_rest text (at + 1), c.cut_return.ensures, add-one) (first_line-ends text at (found-at 10 text at c.in-Some.ensures))
