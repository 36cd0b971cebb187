use Rattle.std.proofs.Common.{◌++◌, subst, List, ℕ}
use Rattle.std.specs.Io.KnownBytes.{Appends}
use Rattle.std.proofs.{lemmas.Iterator.YieldsList-from_chars, lemmas.Iterator.Consumers.YieldsList-end}
use Rattle.hip_uses.specs.Shown.{AreShown}
use Rattle.hip_uses.proofs.Appended.{appends-then}
use Rattle.hip_uses.proofs.Quotes.{all-same, shown-last}
use Rattle.hip_uses.proofs.tools.quoted.print_chars.Goals as goal

pub loop-c-preserved : goal.loop-c-preserved
loop-c-preserved g c =
    let so_far = c.loop-c.invariant in
    let last = c.in_ok-print_char.ensures in
    (so_far.0 ++ last.0, shown-last _ _ _ _ so_far.1 last.1, appends-then _ _ _ _ _ so_far.2 last.2)

pub returns : goal.returns
returns g c =
    let t = YieldsList-end (YieldsList-from_chars c.args.text.now c.utf8.text cc) c.loop-c.yielded _ c.loop-c.yielded_by _ _ c.in-None.is c.next.ensures.steps in
    subst (λ cs. (shown : List ℕ) × AreShown cs shown × Appends (g.W.Write.contents c.args.out.now) (g.W.Write.contents c.loop-c.out) shown) (all-same _ _ t.0) c.loop-c.invariant
