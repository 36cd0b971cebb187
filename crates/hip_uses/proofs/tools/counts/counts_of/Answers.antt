use Rattle.std.proofs.Common.{◌≡◌, ◌∙◌, ◌<◌, ℕ, List, ◌==◌, ◌+◌, take, length, slice_set, get_or, arith, refl}
use Rattle.std.specs.List.{count_by}
use Rattle.std.proofs.lemmas.Grind.{common_steps}
use Rattle.std.proofs.lemmas.List.Sums.{count_by-le-length, count_by_more_no, count_by_more_yes}
use Rattle.std.proofs.lemmas.Bool.Decides.{nat_tests}
use Rattle.std.proofs.lemmas.List.{get_or_default}
use Rattle.hip_uses.proofs.tools.counts.counts_of.Goals as goal

-- one number more is counted
more : (numbers counts : List ℕ) (i n k x : ℕ) → i < length numbers → n ≡ get_or numbers i 0 → n < length counts → k < length counts → x ≡ get_or counts n 0
    → get_or counts k 0 ≡ count_by (λ number. number == k) (take i numbers)
    → get_or (slice_set counts n (x + 1)) k 0 ≡ count_by (λ number. number == k) (take (i + 1) numbers)
more numbers counts i n k x within is low below there so_far = grind (arith, common_steps, count_by_more_yes (λ number. number == k) numbers i 0, count_by_more_no (λ number. number == k) numbers i 0, nat_tests)

pub overflow_add-index_mut : goal.overflow_add-index_mut
overflow_add-index_mut c =
    let n = get_or c.args.numbers.now c.loop-number.number-index 0 in
    grind (arith, common_steps, c.index_mut.ensures.value, c.loop-number.invariant.counts n, count_by-le-length (λ number. number == n) (take c.loop-number.number-index c.args.numbers.now))

pub loop-number-preserved : goal.loop-number-preserved
loop-number-preserved c =
    let n = get_or c.args.numbers.now c.loop-number.number-index 0 in
    record {
      len = grind (arith, common_steps);
      counts = λ k low. more c.args.numbers.now c.loop-number.counts.items c.loop-number.number-index n k c.index_mut.result.now (omega arith) refl (omega (arith, c.loop-number.invariant.len, c.requires c.loop-number.number-index 0)) (omega (arith, c.loop-number.invariant.len)) (c.index_mut.ensures.value ∙ get_or_default c.loop-number.counts.items n _ 0 (omega (arith, c.loop-number.invariant.len, c.requires c.loop-number.number-index 0))) (c.loop-number.invariant.counts k low);
    }
