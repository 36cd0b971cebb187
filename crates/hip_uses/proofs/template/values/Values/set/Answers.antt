use Rattle.hip_uses.proofs.Templates.{set-more}
use Rattle.hip_uses.proofs.template.values.Values.set.Goals as goal

pub returns-clause-set : goal.returns-clause-set
returns-clause-set g c = set-more c.put.result c.self.inside.values c.put.new.map c.args.self.now c.args.name c.args.value c.self.view_is c.put.ensures.updated
