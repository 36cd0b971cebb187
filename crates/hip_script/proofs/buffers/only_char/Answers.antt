use Rattle.std.proofs.{lemmas.Iterator.YieldsList-from_chars, lemmas.Iterator.Consumers.YieldsList-turn, lemmas.Iterator.Consumers.YieldsList-end}
use Rattle.hip_script.proofs.Letters.{only-second, only-all}
use Rattle.hip_script.proofs.buffers.only_char.Goals as goal

pub returns-in-Some-found : goal.returns-in-Some-found
returns-in-Some-found c =
    let t = YieldsList-turn (YieldsList-from_chars c.args.text.now c.utf8.text cc) c.loop-c.yielded _ c.loop-c.yielded_by _ _ c.in-Some.c c.in-Some.is c.next.ensures.steps in
    only-second _ _ _ _ c.in-Some-found.is c.loop-c.invariant t.0

pub returns : goal.returns
returns c =
    let t = YieldsList-end (YieldsList-from_chars c.args.text.now c.utf8.text cc) c.loop-c.yielded _ c.loop-c.yielded_by _ _ c.in-None.is c.next.ensures.steps in
    only-all _ _ _ c.loop-c.invariant t.0
