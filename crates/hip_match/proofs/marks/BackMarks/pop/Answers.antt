use Rattle.hip_match.proofs.MarkLemmas.{behind-found, behind-passed}
use Rattle.hip_match.proofs.marks.BackMarks.pop.Goals as goal

pub returns-clause-found : goal.returns-clause-found
returns-clause-found g c = behind-found (g.T.PlaceTest.places c.args.test.now) c.args.bytes.now _ _ _ c.requires _ c.in_ok-k.ensures

pub returns-clause-behind : goal.returns-clause-behind
returns-clause-behind g c = behind-passed (g.T.PlaceTest.places c.args.test.now) c.args.bytes.now _ _ _ c.requires _ c.in_ok-k.ensures _ c.without-self.ensures.gone c.without-self.ensures.others
