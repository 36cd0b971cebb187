use Rattle.std.proofs.Common.{rules, ◌≡◌, ◌∙◌, ◌<◌, length, sym, append-nil, append_assoc}
use Rattle.std.specs.Char.{encode_utf8}
use Rattle.std.proofs.lemmas.Str.{IsUtf8-append, utf8_lossy_chunk, utf8_lossy_empty, utf8_lossy_last_chunk}
use Rattle.hip_text.proofs.hip_str.decode.repaired.Goals as goal

pub loop-chunk-preserved-in-Continue-branch-2 : goal.loop-chunk-preserved-in-Continue-branch-2
loop-chunk-preserved-in-Continue-branch-2 c =
    let steps = c.in-Some.ensures.steps in
    let none : length c.in-Some.chunk.invalid.now ≡ 0 = search rules in
    let text = utf8_lossy_last_chunk _ _ _ _ steps.0 steps.3.0 none (steps.2 none) in (
      rw (c.in_ok-push_slice.ensures.items, c.as_bytes-valid.ensures.value, c.valid.ensures, append_assoc) (rw text at c.loop-chunk.invariant.0),
      rw c.in_ok-push_slice.ensures.items (IsUtf8-append _ _ c.loop-chunk.invariant.1 c.as_bytes-valid.ensures.utf8),
    )

pub loop-chunk-preserved : goal.loop-chunk-preserved
unfolding encode_utf8
loop-chunk-preserved c =
    let steps = c.in-Some.ensures.steps in
    let some : 0 < length c.in-Some.chunk.invalid.now = search rules in
    let text = utf8_lossy_chunk _ _ _ _ steps.0 steps.3.0 steps.3.1 some in (
      rw (c.in_ok-push_behind.ensures.items, c.as_bytes.ensures.value, c.as_bytes-valid.ensures.value, c.valid.ensures)
          (simp append_assoc (rw text at c.loop-chunk.invariant.0)),
      rw c.in_ok-push_behind.ensures.items
          (IsUtf8-append _ _ (IsUtf8-append _ _ c.loop-chunk.invariant.1 c.as_bytes-valid.ensures.utf8) c.as_bytes.ensures.utf8),
    )

pub returns-clause-repaired : goal.returns-clause-repaired
returns-clause-repaired c = rw c.into_vec.ensures (sym (append-nil _) ∙ rw (utf8_lossy_empty _ c.in-None.ensures.steps.0) at c.loop-chunk.invariant.0)
