use Rattle.std.proofs.Common.{◌++◌, codes, if◌then◌else◌, subst}
use Rattle.std.specs.Io.KnownBytes.{Appends}
use Rattle.hip_script.specs.{Printed.printed_literal, Prints.AppendsFront}
use Rattle.hip_script.proofs.Appended.{appends-then}
use Rattle.hip_script.proofs.Printing.{front-of, front-then, prints-cut, prints-then}
use Rattle.hip_script.proofs.print.print_slot.Goals as goal

pub returns-in_err-write : goal.returns-in_err-write
returns-in_err-write g c =
    let word = if c.args.is_text then codes "text " else codes "bytes " in
    prints-cut _ _ _ _ c.from_residual.ensures.0 (front-of _ _ (word ++ printed_literal c.args.bytes.now) (codes "\n") (front-of _ _ word (printed_literal c.args.bytes.now)
    (subst (AppendsFront (g.W.Write.contents c.args.out.now) (g.W.Write.contents c.write.new.out)) c.slot_word.ensures c.in_err-write.ensures)))

pub returns-in_err-print_literal : goal.returns-in_err-print_literal
returns-in_err-print_literal g c =
    let word = if c.args.is_text then codes "text " else codes "bytes " in
    prints-cut _ _ _ _ c.from_residual-in_err-print_literal.ensures.0 (front-of _ _ (word ++ printed_literal c.args.bytes.now) (codes "\n") (front-then _ _ _ word (printed_literal c.args.bytes.now)
    (subst (Appends (g.W.Write.contents c.args.out.now) (g.W.Write.contents c.write.new.out)) c.slot_word.ensures c.in_ok-write.ensures) c.in_err-print_literal.ensures))

pub returns : goal.returns
returns g c =
    let word = if c.args.is_text then codes "text " else codes "bytes " in
    prints-then _ _ _ (word ++ printed_literal c.args.bytes.now) (codes "\n") c.write-2.result
    (appends-then _ _ _ word (printed_literal c.args.bytes.now)
    (subst (Appends (g.W.Write.contents c.args.out.now) (g.W.Write.contents c.write.new.out)) c.slot_word.ensures c.in_ok-write.ensures) c.in_ok-print_literal.ensures) c.write-2.ensures
