use Rattle.std.proofs.Common.{◌≡◌, ◌<◌, ℕ, ◌==◌, take, length, slice_index}
use Rattle.std.specs.List.{count_by}
use Rattle.hip_uses.proofs.tools.counts.counts_of.Given as goal

abbrev pub invariant-loop-number : goal.invariant-loop-number
invariant-loop-number l = record {
  len : length l.counts.items ≡ l.len;
  counts : (k : ℕ) → k < l.len → slice_index l.counts.items k ≡ count_by (λ number. number == k) (take l.number-index l.numbers);
}
