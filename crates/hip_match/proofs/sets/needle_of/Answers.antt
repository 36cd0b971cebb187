use Rattle.std.proofs.Common.{◌∙◌, Some, ap, sym, take}
use Rattle.std.proofs.lemmas.Bool.{ltb-true}
use Rattle.std.proofs.lemmas.Str.{encode_ascii}
use Rattle.hip_match.specs.declared.place_test.Needle.TheVariants.{One}
use Rattle.hip_match.proofs.StartLemmas.{char_found}
use Rattle.hip_match.proofs.sets.needle_of.Goals as goal

pub returns-then-is_ascii : goal.returns-then-is_ascii
returns-then-is_ascii c = char_found c.args.c c.ranges.c.0 (Some (One c.args.c)) (ap (take 4) (sym (encode_ascii c.args.c (ltb-true _ _ (sym c.is_ascii.ensures ∙ c.if-is_ascii.true)))))

pub returns : goal.returns
returns c = rw c.unwrap_or.ensures (char_found c.args.c c.ranges.c.0 _ (rw (c.as_bytes.ensures.value, c.encode_utf8.ensures.value) at c.new.ensures))
