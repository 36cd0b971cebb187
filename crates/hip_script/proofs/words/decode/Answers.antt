use Rattle.std.proofs.Common.{refl, subst, ◌+◌, take}
use Rattle.std.proofs.lemmas.List.{take_rest}
use Rattle.memchr.specs.Find.{IsFirstByte, is_byte2}
use Rattle.hip_script.proofs.Decoded.{no_sign-none, plain-literal}
use Rattle.hip_script.proofs.words.decode.Goals as goal

pub returns-in_err-at-clause-bad : goal.returns-in_err-at-clause-bad
returns-in_err-at-clause-bad c = λ _. no_sign-none _ (subst (IsFirstByte (is_byte2 34 92) c.args.text.now) c.in_err-at.ensures.ok_part c.memchr2.ensures)

pub returns-then-text-at-eq34-clause-ok : goal.returns-then-text-at-eq34-clause-ok
returns-then-text-at-eq34-clause-ok c =
    let text = c.args.text.now in
    let at = c.in_ok-at.at in record {
      bytes = take at text;
      read_is = rw (take_rest text (at + 1)) (plain-literal at text (subst (IsFirstByte (is_byte2 34 92) text) c.in_ok-at.ensures.ok_part c.memchr2.ensures) c.if-text-at-eq34.true);
      stands = (refl, refl);
    }
