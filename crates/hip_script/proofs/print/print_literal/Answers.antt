use Rattle.std.proofs.Common.{◌+◌, ◌++◌, ◌∷◌, [], arith}
use Rattle.std.proofs.{lemmas.List.length-drop, lemmas.List.take_rest}
use Rattle.std.specs.List.{flat_map}
use Rattle.hip_script.specs.Printed.{printed_byte}
use Rattle.hip_script.proofs.Literals.{cut-escaped, cut-last-stretch, cut-stretch, ends-literal, prints-on}
use Rattle.hip_script.proofs.Printing.{front-of, prints-cut}
use Rattle.hip_script.proofs.print.print_literal.Goals as goal

pub loop-at-preserved : goal.loop-at-preserved
loop-at-preserved g c =
    let rest = c.loop-at.rest.now in
    let at = c.in-Some.at in
    let short = c.loop-at.invariant.short in
    rw (take_rest rest (at + 1)) (record {
      so_far = prints-on _ _ _ _ _ _ _ c.in-Some.ensures c.loop-at.invariant.so_far c.in_ok-write-2.ensures c.in_ok-print_escaped.ensures;
      short = omega (arith, length-drop (at + 1) rest);
    })

pub returns-in_err-write : goal.returns-in_err-write
returns-in_err-write g c = prints-cut _ _ _ _ c.from_residual.ensures.0 (front-of _ _ (34 ∷ []) (flat_map printed_byte c.args.bytes.now ++ (34 ∷ [])) c.in_err-write.ensures)

pub returns-in_err-write-2 : goal.returns-in_err-write-2
returns-in_err-write-2 g c = prints-cut _ _ _ _ c.from_residual-in_err-write-2.ensures.0 (cut-stretch _ _ _ _ _ _ c.in-Some.ensures c.loop-at.invariant.so_far c.in_err-write-2.ensures)

pub returns-in_err-print_escaped : goal.returns-in_err-print_escaped
returns-in_err-print_escaped g c =
    prints-cut _ _ _ _ c.from_residual-in_err-print_escaped.ensures.0 (cut-escaped _ _ _ _ _ _ _ c.in-Some.ensures c.loop-at.invariant.so_far c.in_ok-write-2.ensures c.in_err-print_escaped.ensures)

pub returns-in_err-write-3 : goal.returns-in_err-write-3
returns-in_err-write-3 g c = prints-cut _ _ _ _ c.from_residual-in_err-write-3.ensures.0 (cut-last-stretch _ _ _ _ _ c.in_default.ensures c.loop-at.invariant.so_far c.in_err-write-3.ensures)

pub returns : goal.returns
returns g c = ends-literal _ _ _ _ _ _ c.write-3.result c.in_default.ensures c.loop-at.invariant.so_far c.in_ok-write-3.ensures c.write-3.ensures
