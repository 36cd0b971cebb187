use Rattle.std.proofs.Common.{◌∙◌, ap, arith, length}
use Rattle.std.proofs.lemmas.Str.{IsCharBoundary-end, IsCharBoundary-start}
use Rattle.hip_match.proofs.GapLemmas.{text_parts}
use Rattle.hip_match.proofs.marked_parts.MarkedParts.by.Goals as goal

pub returns : goal.returns
returns g c =
    let made = c.of_bytes.ensures.made in
    let same = c.as_bytes.ensures.value in
    let bytes = made.bytes ∙ same in
    record {
      ready = (rw (bytes, c.of_bytes.ensures.whole.0, c.of_bytes.ensures.whole.1 ∙ ap length same) (record { utf8 = c.utf8.text; start = IsCharBoundary-start _ c.utf8.text; end = IsCharBoundary-end _; ordered = omega arith }), rw c.of_bytes.ensures.test c.requires, made.ready);
      text = bytes;
      rest = made.rest ∙ (rw same (text_parts (g.T.ByteTest.passes c.args.test) c.requires c.args.text.now c.utf8.text));
    }
