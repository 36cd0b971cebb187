use Rattle.std.proofs.Common.{sym, ap, ◌∙◌, reverse, arith, length}
use Rattle.std.proofs.lemmas.List.{reverse-reverse}
use Rattle.std.proofs.lemmas.Str.{IsCharBoundary-start, IsCharBoundary-end}
use Rattle.hip_match.proofs.OneCharLemmas.{one_chars, reversed}
use Rattle.hip_match.proofs.laws.one_char_reverses.Goals as goal

pub returns : goal.returns
returns g c =
    let utf8 = c.utf8.text in
    let one = one_chars _ _ (λ a b. g.met.P.Pattern.spans _ _ a b utf8) (λ a b. g.met.P.OneChar.one_char _ _ a b utf8) in
    sym (ap reverse (reversed _ _ one 0 (length c.args.text.now) (record { utf8 = utf8; start = IsCharBoundary-start _ utf8; end = IsCharBoundary-end _; ordered = omega arith })) ∙ reverse-reverse _)
