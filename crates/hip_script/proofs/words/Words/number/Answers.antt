use Rattle.std.proofs.Common.{rules, ◌≡◌, get_or, true, Some, ap, ◌∙◌}
use Rattle.std.proofs.lemmas.List.{take_rest}
use Rattle.std.specs.Char.{is_ascii_digit}
use Rattle.hip_script.proofs.WordLaws.{digit-ends, digit-word}
use Rattle.hip_script.specs.Words.{number_of, said_at}
use Rattle.hip_script.proofs.words.Words.number.Goals as goal

pub returns-in-len1 : goal.returns-in-len1
returns-in-len1 c =
    let text = c.in_ok-self.field-0.now in
    let left : c.args.self.now ≡ Some text = search rules in
    ap (said_at number_of) left ∙ search (rules, digit-ends)

pub returns-in-32 : goal.returns-in-32
returns-in-32 c =
    let text = c.in_ok-self.field-0.now in
    let left : c.args.self.now ≡ Some text = search rules in
    let space : get_or text 1 0 ≡ 32 = search rules in
    let is : is_ascii_digit (get_or text 0 0) ≡ true = search rules in
    ap (said_at number_of) left ∙ rw (take_rest text 2) (digit-word text c.in-32.len_at_least space is)
