use Rattle.std.proofs.Common.{arith}
use Rattle.std.proofs.lemmas.Bool.Decides.{nat_tests}
use Rattle.std.proofs.lemmas.Grind.{common_steps}
use Rattle.hip_match.proofs.PiecesLemmas.{TakesLastCut-before, TakesLastCut-at}
use Rattle.hip_match.proofs.matches.Matches.last_before.Goals as goal

pub returns-then-last-end : goal.returns-then-last-end
returns-then-last-end g c =
    let last = c.in_ok-last.ensures in
    record {
      taken = record {
        list = TakesLastCut-before _ _ _ _ last.taken.list last.holds c.if-last-end.true;
        cut = last.taken.cut;
        text = last.taken.text;
        ready = last.taken.ready;
      };
    }

pub returns : goal.returns
returns g c = grind (arith, nat_tests, common_steps, TakesLastCut-at)
