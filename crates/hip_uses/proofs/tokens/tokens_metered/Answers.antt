use Rattle.std.proofs.Common.{◌≡◌, ◌∙◌, ℕ, ◌+◌, ◌-◌, ◌*◌, List, length, ap, refl, sym, subst, arith, length-append, slice_range, flat_map}
use Rattle.std.proofs.lemmas.Str.{IsCharBoundary-start}
use Rattle.std.proofs.lemmas.List.Elements.{All-nil}
use Rattle.hipstr.specs.Made.{IsPart}
use Rattle.hipstr.specs.Meter.{RisesAtMost}
use Rattle.hip_uses.specs.Token.{AreAdjacent, IsClassRun, IsTokenOf, token_bytes}
use Rattle.hip_uses.proofs.Runs.{All-more, adjacent-more, joined-more, length-range, rises-more}
use Rattle.hip_uses.proofs.tokens.tokens_metered.Goals as goal

pub loop-start-init : goal.loop-start-init
loop-start-init g c = record {
  boundary = rw (← c.as_str-whole.ensures.items) (IsCharBoundary-start _ c.as_str-whole.ensures.utf8);
  joined = ap (flat_map token_bytes) c.new-tokens.ensures.items;
  each = rw c.new-tokens.ensures.items (All-nil (IsTokenOf c.args.source.now));
  places = subst (λ ts. AreAdjacent 0 ts 0) (sym c.new-tokens.ensures.items) refl;
  ahead = rw (← c.as_str-whole.ensures.items, ← c.as_bytes.ensures.value) c.new-turns.ensures;
  shared = λ shares. record { never_falls = omega arith; at_most = omega arith };
}

pub part_metered-requires-clause-end_at_boundary : goal.part_metered-requires-clause-end_at_boundary
part_metered-requires-clause-end_at_boundary g c = rw (← c.as_str-whole.ensures.items) c.next_end-end.ensures.boundary

pub loop-start-preserved : goal.loop-start-preserved
loop-start-preserved g c =
    let items = c.args.source.now.items in
    let start = c.loop-start.start in
    let end = c.next_end-end.result in
    let class = c.class_of-class.result in
    let pushed = c.in_ok-push.ensures.items in
    let part = c.in_ok-text.ensures.part in
    let run : IsClassRun items class start end = subst (λ (l : List ℕ). IsClassRun l class start end) c.as_str-whole.ensures.items c.next_end-end.ensures.run in
    let size : length c.in_ok-text.text.items ≡ end - start = ap length part.items_are ∙ length-range items start end (omega (arith, run.filled)) run.within in
    let place : end ≡ start + length c.in_ok-text.text.items = omega (arith, size, run.filled) in
    let is : IsPart c.args.source.now c.in_ok-text.text (slice_range items start (start + length c.in_ok-text.text.items)) =
    subst (λ (k : ℕ). IsPart c.args.source.now c.in_ok-text.text (slice_range items start k)) place part in
    record {
      boundary = rw (← c.as_str-whole.ensures.items) c.next_end-end.ensures.boundary;
      joined = joined-more items c.loop-start.tokens.items c.push.new.self.items _ start end pushed c.loop-start.invariant.joined part.items_are (omega (arith, run.filled));
      each = All-more (IsTokenOf c.args.source.now) c.loop-start.tokens.items c.push.new.self.items _ pushed (is, subst (IsClassRun items class start) place run) c.loop-start.invariant.each;
      places = subst (λ ts. AreAdjacent 0 ts end) (sym pushed) (adjacent-more c.loop-start.tokens.items _ 0 end c.loop-start.invariant.places (sym place));
      ahead = rw (← c.as_str-whole.ensures.items) c.next_end-end.ensures.ahead;
      shared = λ shares. let bound = c.one_part_copies_little.ensures.part shares c.args.source.now.kind (end - start) in
          subst (λ (n : ℕ). RisesAtMost c.args.meter.now c.part_metered.new.meter (23 * n)) (sym (ap length pushed ∙ length-append c.loop-start.tokens.items _))
          (rises-more _ c.args.meter.now c.loop-start.meter c.part_metered.new.meter (length c.loop-start.tokens.items) bound (c.loop-start.invariant.shared shares) c.in_ok-text.ensures.counted);
    }
