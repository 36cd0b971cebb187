use Rattle.std.proofs.Common.{◌∙◌, ap, map, subst, arith, refl}
use Rattle.std.proofs.lemmas.List.{take_all}
use Rattle.std.proofs.lemmas.List.Sorted.{IsPermutation-map}
use Rattle.std.specs.List.Sorted.{IsPermutation}
use Rattle.hip_uses.specs.Tallies.{count_and_place, numbered}
use Rattle.hip_uses.proofs.Ranks.{ranks-next, rows-fall}
use Rattle.hip_uses.proofs.tools.counts.ranked.Goals as goal

pub loop-place-preserved : goal.loop-place-preserved
loop-place-preserved c = record {
  len = omega arith;
  room = omega arith;
  is = ranks-next c.args.counts.now c.loop-place.place _ _ _ (omega arith) refl c.push_reserved.ensures.items c.loop-place.invariant.is;
}

pub returns-clause-each : goal.returns-clause-each
returns-clause-each c =
    subst (λ l. IsPermutation l (map count_and_place c.sort_unstable.new.self.items)) (c.loop-place.invariant.is ∙ ap numbered (take_all c.loop-place.place c.args.counts.now c.loop-place-test.false)) (IsPermutation-map count_and_place _ _ c.sort_unstable.ensures.permutation)

pub returns-clause-order : goal.returns-clause-order
returns-clause-order c = rows-fall c.sort_unstable.new.self.items c.sort_unstable.ensures.sorted
