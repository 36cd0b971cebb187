use Rattle.hip_match.proofs.SpaceLemmas.{space_first_places}
use Rattle.hip_match.proofs.white_space.WhiteSpacePattern.searcher.Goals as goal

pub returns : goal.returns
returns c = record { front = λ cut. (space_first_places, c.new.ensures.ahead _ cut.0); back = λ cut. (space_first_places, c.new.ensures.behind _ cut.0) }
