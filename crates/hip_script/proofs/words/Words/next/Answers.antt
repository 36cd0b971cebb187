use Rattle.std.proofs.Common.{rules, ◌≡◌, ◌+◌, add-one, Some, ap, ◌∙◌}
use Rattle.std.proofs.lemmas.List.{take_rest}
use Rattle.hip_script.proofs.{Bytes.found-at, Bytes.found-nowhere, WordLaws.word-ends, WordLaws.last_word}
use Rattle.hip_script.specs.Words.{word_at}
use Rattle.hip_script.proofs.words.Words.next.Goals as goal

pub returns-in-Some : goal.returns-in-Some
returns-in-Some c =
    let text = c.in_ok-rest.rest.now in
    let at = c.in-Some.at in
    let left : c.args.self.now ≡ Some text = search rules in
    ap word_at left ∙ ap Some (rw (take_rest text (at + 1), add-one) (word-ends text at (found-at 32 text at c.in-Some.ensures)))

pub returns-in-None : goal.returns-in-None
returns-in-None c =
    let text = c.in_ok-rest.rest.now in
    let left : c.args.self.now ≡ Some text = search rules in
    ap word_at left ∙ ap Some (last_word text (found-nowhere 32 text c.in-None.ensures))
