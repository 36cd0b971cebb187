use Rattle.hip_match.proofs.MarkLemmas.{ahead-found, ahead-passed}
use Rattle.hip_match.proofs.marks.FrontMarks.pop.Goals as goal

pub returns-clause-found : goal.returns-clause-found
returns-clause-found g c = ahead-found (g.T.PlaceTest.places c.args.test.now) c.args.bytes.now _ _ _ c.requires _ c.in_ok-k.ensures

pub returns-clause-ahead : goal.returns-clause-ahead
returns-clause-ahead g c =
    let rest = c.without_lowest-self.ensures in
    let low = c.in_ok-k.ensures in
    ahead-passed (g.T.PlaceTest.places c.args.test.now) c.args.bytes.now _ _ _ c.requires _ low _ (rest.lowest _ low) (λ k apart. rest.others _ k low apart)
