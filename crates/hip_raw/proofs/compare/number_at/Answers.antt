use Rattle.std.proofs.Common.{◌+◌, ◌*◌, sym, ◌∙◌, arith}
use Rattle.hip_raw.proofs.Decided.{spelt_on, small_on, small_eight}
use Rattle.hip_raw.proofs.compare.number_at.Goals as goal

pub overflow_mul-number : goal.overflow_mul-number
overflow_mul-number g c = record { fits = omega (arith, small_eight c.loop-k.number 0 c.loop-k.k c.loop-k.invariant.small (omega arith) (omega arith)) }

pub overflow_add-number : goal.overflow_add-number
overflow_add-number g c = record { fits = small_eight c.loop-k.number c.from.result c.loop-k.k c.loop-k.invariant.small (omega arith) (omega arith) }

pub loop-k-preserved : goal.loop-k-preserved
loop-k-preserved g c =
    let xs = c.args.bytes.now in
    record {
      spelt = sym (spelt_on xs c.args.i c.loop-k.k (omega arith) ∙ (λ j. sym c.loop-k.invariant.spelt j * 256 + sym c.from.ensures j));
      small = small_on c.loop-k.number c.from.result c.loop-k.k c.loop-k.invariant.small (omega arith);
    }
