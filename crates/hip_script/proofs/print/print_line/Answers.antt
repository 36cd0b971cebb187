use Rattle.std.proofs.Common.{◌≡◌, ◌∙◌, codes, subst}
use Rattle.std.specs.Io.KnownBytes.{Appends}
use Rattle.hip_script.specs.Prints.{AppendsFront}
use Rattle.hip_script.proofs.Printing.{front-of, prints-cut, prints-then}
use Rattle.hip_script.proofs.print.print_line.Goals as goal

pub returns-in_err-write : goal.returns-in_err-write
returns-in_err-write g c =
    let digits : c.as_bytes.result.now ≡ g.I.Integer.text c.args.number = c.as_bytes.ensures.value ∙ c.format.ensures.text in
    prints-cut _ _ _ _ c.from_residual.ensures.0 (front-of _ _ (g.I.Integer.text c.args.number) (codes "\n")
    (subst (AppendsFront (g.W.Write.contents c.args.out.now) (g.W.Write.contents c.write.new.out)) digits c.in_err-write.ensures))

pub returns : goal.returns
returns g c =
    let digits : c.as_bytes.result.now ≡ g.I.Integer.text c.args.number = c.as_bytes.ensures.value ∙ c.format.ensures.text in
    prints-then _ _ _ (g.I.Integer.text c.args.number) (codes "\n") c.write-2.result
    (subst (Appends (g.W.Write.contents c.args.out.now) (g.W.Write.contents c.write.new.out)) digits c.in_ok-write.ensures) c.write-2.ensures
