use Rattle.std.proofs.Common.{◌∙◌, ap}
use Rattle.std.specs.Prelude.{◌&&◌}
use Rattle.hipstr.proofs.Ways.{walked}
use Rattle.hipstr.specs.{Cut.has_back, Ways.walks_one_way}
use Rattle.hipstr.proofs.machine.parts.make_parts.Goals as goal

pub make_walked-requires-clause-ends : goal.make_walked-requires-clause-ends
make_walked-requires-clause-ends g c =
    ap (λ one_way. one_way && has_back c.args.script.now) (ap walks_one_way c.walked_of.ensures ∙ (walked c.args.how).1) ∙ c.requires.ends

pub returns : goal.returns
returns g c = rw (← (walked c.args.how).0 c.args.text.now.items, ← c.walked_of.ensures) c.make_walked.ensures
