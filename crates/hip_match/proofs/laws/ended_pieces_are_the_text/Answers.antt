use Rattle.hip_match.proofs.LawLemmas.{ended-together}
use Rattle.hip_match.proofs.laws.ended_pieces_are_the_text.Goals as goal

pub returns : goal.returns
returns g c = ended-together _ c.args.text.now (λ k m is. (g.met.P.Pattern.spans _ _ k m c.utf8.text is).ordered)
