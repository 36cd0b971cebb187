use Rattle.std.proofs.Common.{rules, ◌≡◌, ◌∙◌, ℕ, ◌+◌, ◌-◌, ◌≤◌, List, ◌++◌, ap, append_assoc, arith, slice_range, sym, take}
use Rattle.std.proofs.lemmas.Grind.{common_steps}
use lib.Seq.{take-add}
use Rattle.hip_raw.proofs.filling.Filling.push_slice.Goals as goal

take-to : (bytes : List ℕ) (done end : ℕ) → done ≤ end → take done bytes ++ slice_range bytes done end ≡ take end bytes
take-to bytes done end ordered =
    let same : done + (end - done) ≡ end = omega arith in
    sym (take-add done (end - done) bytes) ∙ ap (λ n. take n bytes) same

pub loop-done-preserved : goal.loop-done-preserved
loop-done-preserved c =
    let old = c.args.self.now.items in
    let bytes = c.args.addition.now in
    let done = c.loop-done.done in
    let end = c.min-end.result in
    let part = slice_range bytes done end in
    record {
      within = search rules;
      items = c.push_slice_within.ensures.items ∙ ap (λ front. front ++ part) c.loop-done.invariant.items ∙ append_assoc old (take done bytes) part ∙ ap (λ back. old ++ back) (take-to bytes done end (search rules));
      room = search rules;
      grown = search rules;
      counted = grind (arith, common_steps);
    }
