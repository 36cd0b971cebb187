use Rattle.hipstr.specs.AsciiSets.{in_set}
use Rattle.hip_uses.proofs.TurnLemmas.{turns-few, turns-told}
use Rattle.hip_uses.proofs.tokens.turns.turns_at.Goals as goal

pub returns-clause-turns : goal.returns-clause-turns
returns-clause-turns c =
    turns-told c.args.bytes.now c.args.at c.marks-spaces.result c.marks-digits.result (in_set c.spaces_and_marks.result) (in_set c.digits_and_marks.result) (λ k. (c.type_inv.bytes k).fits)
    c.spaces_and_marks.ensures c.digits_and_marks.ensures c.marks-spaces.ensures c.marks-digits.ensures

pub returns-clause-few : goal.returns-clause-few
returns-clause-few c = λ k high. turns-few _ k high
