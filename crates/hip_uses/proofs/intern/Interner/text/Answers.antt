use Rattle.std.proofs.Common.{◌∙◌, map, ap, subst}
use Rattle.hip_uses.specs.Number.{StandOnce, text_bytes}
use Rattle.hip_uses.proofs.Interned.{text-numbered}
use Rattle.hip_uses.proofs.intern.Interner.text.Goals as goal

pub returns-clause-number : goal.returns-clause-number
returns-clause-number g c =
    text-numbered _ c.get.result c.deref.result.now c.args.self.now c.args.number c.get.ensures.lookup.1 c.get.ensures.lookup.3 (ap (map text_bytes) c.deref.ensures.value ∙ c.self.view_is) (subst StandOnce c.self.view_is c.self.invariant.0)
