use Rattle.std.proofs.Common.{sym, ap, ◌∙◌}
use Rattle.std.specs.Option.{option_map}
use Rattle.hip_script.specs.{Said.held, Spoken.Pattern.CharOf, Spoken.Quoted.Sought}
use Rattle.hip_script.proofs.Quotes.{lent-text, quotes-any, quotes-bytes, quotes-decoded, quotes-text, quotes-decoded_text, quotes-char}
use Rattle.hip_script.proofs.buffers.Buffers.quoted.Goals as goal

pub returns-in-Plain-clause-ok : goal.returns-in-Plain-clause-ok
returns-in-Plain-clause-ok c = quotes-bytes _ _ _ _ c.in-Bytes.is c.in-Plain.is

pub returns-in-Decoded-clause-ok : goal.returns-in-Decoded-clause-ok
returns-in-Decoded-clause-ok c = quotes-decoded _ _ _ _ c.in-Bytes.is c.in-Decoded.is c.requires

pub returns-in_ok-text_of-in-Plain-literal-clause-ok : goal.returns-in_ok-text_of-in-Plain-literal-clause-ok
returns-in_ok-text_of-in-Plain-literal-clause-ok c =
    quotes-text _ _ c.in-Plain-literal.bytes _ (held c.args.self.now) c.in-Text.is c.in-Plain-literal.is c.in_ok-text_of-in-Plain-literal.ensures.text

pub returns-in_ok-text_of-in-Decoded-literal-clause-ok : goal.returns-in_ok-text_of-in-Decoded-literal-clause-ok
returns-in_ok-text_of-in-Decoded-literal-clause-ok c =
    quotes-decoded_text _ _ _ _ _ _ (held c.args.self.now) c.in-Text.is c.in-Decoded-literal.is c.requires c.deref.ensures.value c.of.ensures
    c.in_ok-text_of-in-Decoded-literal.ensures.text

pub returns-in_ok-ok_or-in-Char-clause-ok : goal.returns-in_ok-ok_or-in-Char-clause-ok
returns-in_ok-ok_or-in-Char-clause-ok c =
    let text = lent-text c.args.self.now.bytes.items _ _ _ c.args.literal c.deref-in-Char.ensures.value c.of-in-Char.ensures c.in_ok-text_of-in-Char.ensures.text in
    quotes-char _ _ _ _ (held c.args.self.now) c.in-Char.is text (ap (option_map (λ c. Sought (CharOf c))) (sym c.in_ok-ok_or-in-Char.ensures.ok_part) ∙ c.only_char-c.ensures)

pub returns-in_ok-add_chars-in-Any-clause-ok : goal.returns-in_ok-add_chars-in-Any-clause-ok
returns-in_ok-add_chars-in-Any-clause-ok c =
    let text = lent-text c.args.self.now.bytes.items _ _ _ c.args.literal c.deref-in-Any.ensures.value c.of-in-Any.ensures c.in_ok-text-in-Any.ensures.text in
    quotes-any _ _ _ _ (held c.args.self.now) _ c.in-Any.is text c.in_ok-add_chars-in-Any.ensures.ok
