use Rattle.std.proofs.Common.{◌≡◌, ◌∙◌, ◌+◌, ℕ, List, ap, drop, length, refl, sym, arith, slice_range}
use Rattle.std.proofs.lemmas.List.Elements.{All-nil}
use Rattle.std.proofs.lemmas.Str.{IsCharBoundary-start}
use Rattle.hip_uses.specs.Template.{AreParts, CutsHole}
use Rattle.hip_uses.proofs.Runs.{All-more}
use Rattle.hip_uses.specs.declared.template.Hole.{Hole}
use Rattle.hip_uses.proofs.Holes.{cuts-hole, end-is, pair-end, pair-lacks, pair-parts}
use Rattle.hip_uses.proofs.TemplateCosts.{holes-cost, own-part}
use Rattle.hip_uses.proofs.Templates.{cuts-more, written-more}
use Rattle.hip_uses.proofs.template.holes.holes_of.Goals as goal

pub loop-open-init : goal.loop-open-init
loop-open-init g c =
    record {
      from_at = IsCharBoundary-start _ c.as_str-text.utf8;
      written = grind arith;
      parsed = grind arith;
      parts = rw c.new-holes.ensures.items (All-nil (AreParts c.args.template.now));
      counted = record { never_falls = omega arith; at_most = omega arith };
    }

pub next_pair-requires-in-Some-clause-boundary : goal.next_pair-requires-in-Some-clause-boundary
next_pair-requires-in-Some-clause-boundary g c = pair-end 123 c.as_str-text.result.now c.in-Some.open (omega arith) c.as_str-text.utf8 c.in-Some.ensures.is

pub part-requires-clause-start_at_boundary : goal.part-requires-clause-start_at_boundary
part-requires-clause-start_at_boundary g c = grind (arith, pair-end 123 c.as_str-text.result.now c.in-Some.open)

pub returns-in_default-next_pair-clause-fault : goal.returns-in_default-next_pair-clause-fault
returns-in_default-next_pair-clause-fault g c =
    let text = c.as_str-text.result.now in
    let same = sym c.as_str-text.ensures.items in
    let from = c.loop-open.from in
    let left = c.in-Some.open in
    let behind = c.in_ok-behind.behind.items in
    let shown : behind ≡ drop (left + 2) text = c.in_ok-behind.ensures.part.items_are ∙ ap (λ (l : List ℕ). slice_range l (left + 2) (length text)) same ∙ end-is text (left + 2) (length text) refl in
    (c.loop-open.holes.items, drop from text, slice_range text from left, rw (← c.as_str-text.ensures.items) c.loop-open.invariant.parsed, rw shown (pair-parts 123 text from left c.in-Some.ensures), rw shown (pair-lacks 125 text (left + 2) c.in_default-next_pair.ensures))

pub part-requires-in-Some-2-clause-start_at_boundary : goal.part-requires-in-Some-2-clause-start_at_boundary
part-requires-in-Some-2-clause-start_at_boundary g c = grind (arith, pair-end 123 c.as_str-text.result.now c.in-Some.open)

pub loop-open-preserved : goal.loop-open-preserved
loop-open-preserved g c =
    let AHole : Type 0 = Hole g.row.B.Denot g.row.B-Sole.Denot g.row.B-Extent.Denot in
    let text = c.as_str-text.result.now in
    let same = sym c.as_str-text.ensures.items in
    let from = c.loop-open.from in
    let left = c.in-Some.open in
    let right = c.in-Some-next_pair.close in
    let opens = c.in-Some.ensures in
    let closes = c.in-Some-next_pair.ensures in
    let hole : AHole = record { before = c.in_ok-part.field-0; name = c.in_ok-part-2.field-0 } in
    let before_is : hole.before.items ≡ slice_range text from left = c.in_ok-part.ensures.part.items_are ∙ ap (λ (l : List ℕ). slice_range l from left) same in
    let name_is : hole.name.items ≡ slice_range text (left + 2) right = c.in_ok-part-2.ensures.part.items_are ∙ ap (λ (l : List ℕ). slice_range l (left + 2) right) same in
    let cut : CutsHole (drop from text) hole (drop (right + 2) text) = cuts-hole text from left right hole opens closes before_is name_is in
    record {
      from_at = pair-end 125 text right (omega arith) c.as_str-text.utf8 closes.is;
      written = written-more text (drop from text) c.loop-open.holes.items _ hole (drop (right + 2) text) c.loop-open.invariant.written cut c.in_ok-push.ensures.items;
      parsed = cuts-more text (drop from text) c.loop-open.holes.items _ hole (drop (right + 2) text) c.loop-open.invariant.parsed cut c.in_ok-push.ensures.items;
      parts = All-more (AreParts c.args.template.now) c.loop-open.holes.items _ hole c.in_ok-push.ensures.items
          (record { before = own-part c.args.template.now c.in_ok-part.field-0 _ c.in_ok-part.ensures.part; name = own-part c.args.template.now c.in_ok-part-2.field-0 _ c.in_ok-part-2.ensures.part }) c.loop-open.invariant.parts;
      counted = holes-cost g.B.Backend.SHARES c.args.template.now c.loop-open.holes.items _ hole from left (left + 2) right _ _ _ _ c.in_ok-push.ensures.items c.in_ok-part.ensures.part c.in_ok-part-2.ensures.part
          opens.after (omega (arith, opens.is.within, ap length same)) closes.after (omega (arith, closes.is.within, ap length same)) c.loop-open.invariant.counted c.in_ok-part.ensures.counted c.in_ok-part-2.ensures.counted;
    }

pub returns-clause-parsed : goal.returns-clause-parsed
returns-clause-parsed g c = rw (← c.as_str-text.ensures.items) (c.loop-open.invariant.parsed, pair-lacks 123 c.as_str-text.result.now c.loop-open.from c.in_default.ensures)
