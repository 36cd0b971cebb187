use Rattle.std.proofs.Common.{rules, ◌∙◌, ap}
use Rattle.std.proofs.lemmas.Option.{MatchOption-at_none, MatchOption-at_some}
use Rattle.hip_script.specs.{Words.decoded, Words.Place.Plain}
use Rattle.hip_script.proofs.Decoded.{decoded-none, literal-byte, plain-escape, literal-ends, literal-fails, literal-goes_on}
use Rattle.hip_script.proofs.words.decode_all.Goals as goal

pub returns-in-34-clause-ok : goal.returns-in-34-clause-ok
returns-in-34-clause-ok c = literal-ends _ _ _ _ _ _ c.loop-first.invariant c.in-Some.ensures.cases.0 c.in-34.is

pub loop-first-preserved-in-92 : goal.loop-first-preserved-in-92
loop-first-preserved-in-92 c =
    literal-goes_on _ _ _ _ _ _ c.loop-first.invariant
    (ap (decoded Plain) c.in-Some.ensures.cases.0 ∙ plain-escape _ _ c.in-92.is ∙ MatchOption-at_some _ _ _ c.in_ok-byte-in-92.ensures.ok_part c.unescape.ensures.value) c.in_ok-push-in-92.ensures.items

pub loop-first-preserved : goal.loop-first-preserved
loop-first-preserved c =
    literal-byte _ _ _ _ _ _ c.loop-first.invariant c.in-Some.ensures.cases.0 (search rules) (search rules) c.in_ok-push-in_default-first.ensures.items

pub returns-clause-bad : goal.returns-clause-bad
returns-clause-bad c = λ _. literal-fails _ _ _ _ c.loop-first.invariant (decoded-none _ _ c.in_default.ensures.cases)

pub returns-in_err-byte-in-92-clause-bad : goal.returns-in_err-byte-in-92-clause-bad
returns-in_err-byte-in-92-clause-bad c = λ _. literal-fails _ _ _ _ c.loop-first.invariant
    (ap (decoded Plain) c.in-Some.ensures.cases.0 ∙ plain-escape _ _ c.in-92.is ∙ MatchOption-at_none _ _ c.in_err-byte-in-92.ensures.ok_part c.unescape.ensures.value)
