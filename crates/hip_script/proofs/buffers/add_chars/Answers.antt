use Rattle.std.proofs.Common.{rules, ◌∙◌, ◌++◌, ap}
use Rattle.std.proofs.{lemmas.Iterator.YieldsList-from_chars, lemmas.Iterator.Consumers.YieldsList-end}
use Rattle.hip_script.proofs.Letters.{all-same}
use Rattle.hip_script.proofs.buffers.add_chars.Goals as goal

pub returns-clause-ok : goal.returns-clause-ok
returns-clause-ok c =
    let t = YieldsList-end (YieldsList-from_chars c.args.text.now c.utf8.text cc) c.loop-c.yielded _ c.loop-c.yielded_by _ _ c.in-None.is c.next.ensures.steps in
    record {
      added = c.loop-c.invariant ∙ ap (λ more. c.args.buffer.now.items ++ more) (all-same _ _ t.0);
      start = search rules;
      end = search rules;
    }
