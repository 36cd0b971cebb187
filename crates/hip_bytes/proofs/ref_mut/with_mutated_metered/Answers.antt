use Rattle.std.proofs.Common.{length, refl, subst, sym, arith}
use Rattle.std.specs.Vec.{vec_items}
use Rattle.hip_bytes.proofs.ref_mut.with_mutated_metered.Goals as goal

pub returns-in-Ok-put_back_metered-clause-counted : goal.returns-in-Ok-put_back_metered-clause-counted
returns-in-Ok-put_back_metered-clause-counted g c =
    let out = c.in-Ok.ensures.counted in
    let back = c.in-Ok-put_back_metered.ensures.counted in
    record {
      lent = c.in-Ok.lent;
      holds = c.in-Ok.ensures.items;
      left = c.f-answer.new.arg2;
      met = record { shown = _; shows = refl; left = _; met = c.f-answer.ensures; leaves = refl };
      puts = record { never_falls = omega (arith, out.never_falls, back.never_falls); at_most = omega (arith, out.at_most, back.at_most) };
    }

pub returns-in-Err-clause-mutated : goal.returns-in-Err-clause-mutated
returns-in-Err-clause-mutated g c =
    let same = c.in-Err.ensures.handed_back in (
      subst g.S.Source.is_emptied (sym c.in-Err.ensures.err) c.in-Ok.ensures.emptied,
      subst (λ vec. g.S.Source.put_needs_memory (length (vec_items vec))) (sym same) c.in-Err.ensures.memory,
      record {
        lent = c.in-Ok.lent;
        holds = c.in-Ok.ensures.items;
        left = c.f-answer.new.arg2;
        met = record { shown = _; shows = refl; left = _; met = c.f-answer.ensures; leaves = refl };
        puts = same;
      },
    )
