use Rattle.std.proofs.Common.{map}
use Rattle.hip_uses.specs.Listed.{run_of}
use Rattle.hip_uses.proofs.TokenLines.{tokens-are-runs}
use Rattle.hip_uses.proofs.tools.tokens.write_tokens_of.Goals as goal

pub returns-clause-written : goal.returns-clause-written
returns-clause-written g c =
    let printed = rw c.as_slice.ensures.value at c.in_ok-print_tokens.ensures in
    (printed.0, (map run_of c.in_ok-tokens.tokens.items, tokens-are-runs c.args.text.now 0 c.in_ok-tokens.tokens.items c.in_ok-tokens.ensures.places c.in_ok-tokens.ensures.each, printed.1), printed.2)
