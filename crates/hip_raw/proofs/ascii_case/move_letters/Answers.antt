use Rattle.std.proofs.Common.{◌++◌, ◌∙◌, sym, ap, ap₂, map, take, drop, arith, length, ◌-◌, length-drop, drop_of_length-le, take_all}
use Rattle.std.proofs.lemmas.List.{map-append, drop-drop, take-append-drop, append-nil}
use Rattle.std.proofs.Math.Seq.{take-add}
use Rattle.hip_raw.proofs.ascii_case.move_letters.Goals as goal

pub loop-at-preserved : goal.loop-at-preserved
loop-at-preserved g c =
    let moved = g.C.Case.moved in
    let i = c.loop-at.at in
    let old = c.args.bytes.now in
    let was = c.loop-at.invariant in
    record {
      within = omega arith;
      long = omega arith;
      done = c.move_block.ensures.done ∙ ap₂ (λ x y. x ++ map moved (take 64 y)) was.done was.kept
          ∙ sym (map-append moved (take i old) (take 64 (drop i old))) ∙ ap (map moved) (sym (take-add i 64 old));
      kept = c.move_block.ensures.kept ∙ sym (drop-drop 64 i c.loop-at.bytes) ∙ ap (drop 64) was.kept ∙ drop-drop 64 i old;
    }

pub returns : goal.returns
returns g c =
    let moved = g.C.Case.moved in
    let i = c.loop-at.at in
    let old = c.args.bytes.now in
    let was = c.loop-at.invariant in
    let n = length c.loop-at.bytes in
    let rest = drop_of_length-le (drop i c.loop-at.bytes) {i = n - i} (omega (arith, length-drop i c.loop-at.bytes)) in
    let all = take_all (n - i) (drop i c.loop-at.bytes) (omega (arith, length-drop i c.loop-at.bytes)) in
    let last = c.move_bytes.ensures ∙ ap (map moved) (all ∙ was.kept) in
    ap (λ l. take i c.loop-at.bytes ++ (c.move_bytes.new.bytes ++ l)) rest
    ∙ ap (λ l. take i c.loop-at.bytes ++ l) (append-nil _)
    ∙ ap₂ (λ x y. x ++ y) was.done last
    ∙ sym (map-append moved (take i old) (drop i old)) ∙ ap (map moved) (take-append-drop i old)
