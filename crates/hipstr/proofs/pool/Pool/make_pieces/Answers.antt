use Rattle.std.proofs.Common.{◌≡◌, ◌∙◌, ◌≤◌, ◌+◌, ◌++◌, List, length, map, drop, take, replicate, Some, None, if◌then◌else◌, ap, refl, rules, subst, sym, arith}
use Rattle.std.proofs.lemmas.List.{length-map, with_items_is}
use Rattle.hip_bytes.specs.Handle.{Handle}
use Rattle.hip_match.specs.Draw.{draw}
use Rattle.hipstr.specs.Cut.{pieces_of}
use Rattle.hipstr.specs.Parts.{put_all}
use Rattle.hipstr.specs.Reason.{answer_of}
use Rattle.hipstr.specs.Slot.{SlotState, empty_slot, slot_at, state_at, state_of}
use Rattle.hipstr.specs.Step.{copies_of, counts_of, fault_of, Step, not_text_fault, one_end_fault}
use Rattle.hipstr.specs.declared.command.Answer.{Answer}
use Rattle.hipstr.specs.declared.command.Answer.TheVariants.{Number, Refused}
use Rattle.hipstr.specs.declared.command.Command.TheVariants.{Pieces}
use Rattle.hipstr.specs.declared.command.Reason.TheVariants.{NoSlot, Overlap, NotText, OneEnd, Memory}
use Rattle.hipstr.proofs.Counts.{refused-counts}
use Rattle.hipstr.proofs.Parts.{draw-within, empty-length, hold-within, pieces-cost, pieces-count, pieces-need, pieces-put, spare-emptied}
use Rattle.hipstr.proofs.Places.{state-there}
use Rattle.hipstr.proofs.Steps.{faulted, first-fault, none-of-five, one-end, performed, second-fault, told-fault, unfaulted}
use Rattle.hipstr.proofs.pool.Pool.make_pieces.Goals as goal

pub make_parts-requires-clause-room : goal.make_parts-requires-clause-room
make_parts-requires-clause-room g c =
    let state = state_of {B = g.row.B.Denot} {S = g.row.B-Sole.Denot} {P = g.row.B-Extent.Denot} in
    let empty : map state c.deref_mut-spare.result.now ≡ replicate (length c.self.inside.slots.items) empty_slot = ap (map state) c.deref_mut-spare.ensures.value ∙ c.self.invariant in
    let same : length c.self.inside.slots.items ≡ length c.args.self.now = sym (length-map c.self.inside.slots.items state) ∙ ap length c.self.view_is in
    let targets = c.in_ok-find_all.ensures.within in
    let as_many : length (map state c.deref_mut-spare.result.now) ≡ length c.self.inside.slots.items =
    length-map c.deref_mut-spare.result.now state ∙ empty-length state c.deref_mut-spare.result.now (length c.self.inside.slots.items) empty in
    record { empty = empty ∙ ap (λ n. replicate n empty_slot) (sym as_many); within = omega (arith, as_many, same, targets) }

pub put_parts-requires-clause-made : goal.put_parts-requires-clause-made
put_parts-requires-clause-made g c =
    let state = state_of {B = g.row.B.Denot} {S = g.row.B-Sole.Denot} {P = g.row.B-Extent.Denot} in
    omega (arith, c.in_ok-count.ensures.made.0, hold-within c.in_ok-text.text.now (draw (pieces_of c.args.how c.in_ok-text.text.now.items) c.args.script.now) (map state c.make_parts.new.spare) c.in_ok-count.ensures.made.1, length-map c.make_parts.new.spare state)

pub put_parts-requires-clause-room : goal.put_parts-requires-clause-room
put_parts-requires-clause-room g c =
    let state = state_of {B = g.row.B.Denot} {S = g.row.B-Sole.Denot} {P = g.row.B-Extent.Denot} in
    let same : length c.self.inside.slots.items ≡ length c.args.self.now = sym (length-map c.self.inside.slots.items state) ∙ ap length c.self.view_is in
    let targets = c.in_ok-find_all.ensures.within in
    omega (arith, c.in_ok-count.ensures.made.0, draw-within (pieces_of c.args.how c.in_ok-text.text.now.items) c.args.script.now, same, targets, ap length c.deref_mut.ensures.value)

pub returns-in_err-find-clause-step : goal.returns-in_err-find-clause-step
returns-in_err-find-clause-step g c = told-fault g.B.Backend.SHARES c.args.self.now (Pieces c.args.s c.args.how c.args.script c.args.first) _ NoSlot (search rules) (first-fault _ _ NoSlot c.in_err-find.ensures.missing)

pub returns-in_err-find_all-clause-step : goal.returns-in_err-find_all-clause-step
returns-in_err-find_all-clause-step g c =
    told-fault g.B.Backend.SHARES c.args.self.now (Pieces c.args.s c.args.how c.args.script c.args.first) _ NoSlot (search rules)
    (second-fault _ _ (Some NoSlot) c.in_ok-find.ensures.found (first-fault _ _ NoSlot c.in_err-find_all.ensures.missing))

pub returns-then-is_among-clause-step : goal.returns-then-is_among-clause-step
returns-then-is_among-clause-step g c =
    faulted g.B.Backend.SHARES c.args.self.now c.args.self.now (Pieces c.args.s c.args.how c.args.script c.args.first) Overlap
    (second-fault _ _ (Some Overlap) c.in_ok-find.ensures.found (second-fault _ _ (Some Overlap) c.in_ok-find_all.ensures.found
    (first-fault _ _ Overlap (ap (λ b. if b then Some Overlap else None) (sym c.if-is_among.ensures))))) refl

pub returns-in_err-text-clause-step : goal.returns-in_err-text-clause-step
returns-in_err-text-clause-step g c =
    let slots = c.args.self.now in
    let was : state_of {B = g.row.B.Denot} {S = g.row.B-Sole.Denot} {P = g.row.B-Extent.Denot} c.index.result.now ≡ state_at slots c.args.s = state-there c.self.inside.slots.items slots c.args.s c.index.result.now c.self.view_is c.in_ok-find.ensures.within c.index.ensures in
    let told : answer_of c.from_residual-in_err-text.result ≡ Refused NotText = search rules in
    subst (λ (answer : Answer). Step g.B.Backend.SHARES slots (Pieces c.args.s c.args.how c.args.script c.args.first) answer slots) (sym told)
    (faulted g.B.Backend.SHARES slots slots (Pieces c.args.s c.args.how c.args.script c.args.first) NotText
    (second-fault _ _ (Some NotText) c.in_ok-find.ensures.found (second-fault _ _ (Some NotText) c.in_ok-find_all.ensures.found
    (second-fault _ _ (Some NotText) (ap (λ b. if b then Some Overlap else None) (sym c.if-is_among.ensures))
    (first-fault _ _ NotText (ap not_text_fault (sym was) ∙ c.in_err-text.ensures.not_text))))) refl)

pub returns-then-lacks_back-clause-step : goal.returns-then-lacks_back-clause-step
returns-then-lacks_back-clause-step g c =
    let slots = c.args.self.now in
    let was : state_of {B = g.row.B.Denot} {S = g.row.B-Sole.Denot} {P = g.row.B-Extent.Denot} c.index.result.now ≡ state_at slots c.args.s = state-there c.self.inside.slots.items slots c.args.s c.index.result.now c.self.view_is c.in_ok-find.ensures.within c.index.ensures in
    faulted g.B.Backend.SHARES slots slots (Pieces c.args.s c.args.how c.args.script c.args.first) OneEnd
    (second-fault _ _ (Some OneEnd) c.in_ok-find.ensures.found (second-fault _ _ (Some OneEnd) c.in_ok-find_all.ensures.found
    (second-fault _ _ (Some OneEnd) (ap (λ b. if b then Some Overlap else None) (sym c.if-is_among.ensures))
    (second-fault _ _ (Some OneEnd) (ap not_text_fault (sym was) ∙ c.in_ok-text.ensures.found) (ap one_end_fault (sym c.if-lacks_back.ensures)))))) refl

pub make_parts-requires-clause-ends : goal.make_parts-requires-clause-ends
make_parts-requires-clause-ends g c = sym c.if-lacks_back.ensures

pub returns-in_err-count : goal.returns-in_err-count
returns-in_err-count g c =
    let state = state_of {B = g.row.B.Denot} {S = g.row.B-Sole.Denot} {P = g.row.B-Extent.Denot} in
    let slots = c.args.self.now in
    let command = Pieces c.args.s c.args.how c.args.script c.args.first in
    let was : state c.index.result.now ≡ state_at slots c.args.s = state-there c.self.inside.slots.items slots c.args.s c.index.result.now c.self.view_is c.in_ok-find.ensures.within c.index.ensures in
    let unrefused = none-of-five _ _ _ _ _ c.in_ok-find.ensures.found c.in_ok-find_all.ensures.found (ap (λ b. if b then Some Overlap else None) (sym c.if-is_among.ensures))
    (ap not_text_fault (sym was) ∙ c.in_ok-text.ensures.found) (one-end _ (sym c.if-lacks_back.ensures)) in
    let is : c.in_ok-text.text.now ≡ slot_at slots c.args.s = c.in_ok-text.ensures.text ∙ ap (λ (slot : SlotState). slot.handle) was in
    let ranges = λ (text : Handle). draw (pieces_of c.args.how text.items) c.args.script.now in
    let told : answer_of c.from_residual-in_err-count.result ≡ Refused Memory = search rules in
    let counted = unfaulted (fault_of slots command) c.args.meter.now c.make_parts.new.meter (copies_of g.B.Backend.SHARES slots command) unrefused
    (pieces-cost g.B.Backend.SHARES slots c.in_ok-text.text.now c.args.s ranges c.args.meter.now c.make_parts.new.meter is c.in_err-count.ensures.counted) in
    record {
      step = subst (λ (answer : Answer). Step g.B.Backend.SHARES slots command answer (map state c.self.inside.slots.items)) (sym told)
          (performed g.B.Backend.SHARES slots command (Refused Memory) (map state c.self.inside.slots.items) unrefused
          (pieces-need slots c.in_ok-text.text.now c.args.s ranges is c.in_err-count.ensures.made.0, c.self.view_is));
      counted = counted;
      copied = refused-counts (λ answer. counts_of g.B.Backend.SHARES slots command answer (map state c.self.inside.slots.items)) _ Memory refl told counted;
    }

pub invariant_of-self-2 : goal.invariant_of-self-2
invariant_of-self-2 g c =
    let state = state_of {B = g.row.B.Denot} {S = g.row.B-Sole.Denot} {P = g.row.B-Extent.Denot} in
    let ranges = draw (pieces_of c.args.how c.in_ok-text.text.now.items) c.args.script.now in
    let empty : map state c.deref_mut-spare.result.now ≡ replicate (length c.self.inside.slots.items) empty_slot = ap (map state) c.deref_mut-spare.ensures.value ∙ c.self.invariant in
    let emptied : map state c.put_parts.new.spare ≡ replicate (length (map state c.make_parts.new.spare)) empty_slot =
    c.put_parts.ensures.emptied ∙ ap (λ n. replicate n empty_slot ++ drop n (map state c.make_parts.new.spare)) c.in_ok-count.ensures.made.0
    ∙ spare-emptied c.in_ok-text.text.now ranges (map state c.make_parts.new.spare) c.in_ok-count.ensures.made.1 in
    let same : length (map state c.make_parts.new.spare) ≡ length c.put_parts.new.slots =
    omega (arith, length-map c.make_parts.new.spare state, c.make_parts.auto.spare, empty-length state c.deref_mut-spare.result.now (length c.self.inside.slots.items) empty, c.put_parts.auto.slots, ap length c.deref_mut.ensures.value) in
    let spare_is = with_items_is c.self.inside.spare c.put_parts.new.spare (omega (arith, c.put_parts.auto.spare, c.make_parts.auto.spare, ap length c.deref_mut-spare.ensures.value, c.self.inside.spare.ok.0)) in
    let slots_is = with_items_is c.self.inside.slots c.put_parts.new.slots (omega (arith, c.put_parts.auto.slots, ap length c.deref_mut.ensures.value, c.self.inside.slots.ok.0)) in
    ap (map state) spare_is ∙ emptied ∙ ap (λ n. replicate n empty_slot) (same ∙ sym (ap length slots_is))

pub returns : goal.returns
returns g c =
    let state = state_of {B = g.row.B.Denot} {S = g.row.B-Sole.Denot} {P = g.row.B-Extent.Denot} in
    let slots = c.args.self.now in
    let command = Pieces c.args.s c.args.how c.args.script c.args.first in
    let was : state c.index.result.now ≡ state_at slots c.args.s = state-there c.self.inside.slots.items slots c.args.s c.index.result.now c.self.view_is c.in_ok-find.ensures.within c.index.ensures in
    let unrefused = none-of-five _ _ _ _ _ c.in_ok-find.ensures.found c.in_ok-find_all.ensures.found (ap (λ b. if b then Some Overlap else None) (sym c.if-is_among.ensures))
    (ap not_text_fault (sym was) ∙ c.in_ok-text.ensures.found) (one-end _ (sym c.if-lacks_back.ensures)) in
    let is : c.in_ok-text.text.now ≡ slot_at slots c.args.s = c.in_ok-text.ensures.text ∙ ap (λ (slot : SlotState). slot.handle) was in
    let ranges = λ (text : Handle). draw (pieces_of c.args.how text.items) c.args.script.now in
    let room : c.args.first + c.in_ok-count.count ≤ length slots =
    omega (arith, c.in_ok-count.ensures.made.0, draw-within (pieces_of c.args.how c.in_ok-text.text.now.items) c.args.script.now, c.in_ok-find_all.ensures.within) in
    let put : map state c.put_parts.new.slots ≡ put_all slots c.args.first (take c.in_ok-count.count (map state c.make_parts.new.spare)) =
    c.put_parts.ensures.put
    ∙ ap (λ (l : List SlotState). put_all l c.args.first (take c.in_ok-count.count (map state c.make_parts.new.spare))) (ap (map state) c.deref_mut.ensures.value ∙ c.self.view_is) in
    let slots_is = with_items_is c.self.inside.slots c.put_parts.new.slots (omega (arith, c.put_parts.auto.slots, ap length c.deref_mut.ensures.value, c.self.inside.slots.ok.0)) in
    record {
      step = performed g.B.Backend.SHARES slots command (Number c.in_ok-count.count) _ unrefused
          (pieces-put slots (map state c.make_parts.new.spare) _ c.in_ok-text.text.now c.args.s c.args.first c.in_ok-count.count ranges is
          c.in_ok-count.ensures.made.0 c.in_ok-count.ensures.made.1 room (ap (map state) slots_is ∙ put));
      counted = unfaulted (fault_of slots command) c.args.meter.now c.make_parts.new.meter (copies_of g.B.Backend.SHARES slots command) unrefused
          (pieces-cost g.B.Backend.SHARES slots c.in_ok-text.text.now c.args.s ranges c.args.meter.now c.make_parts.new.meter is c.in_ok-count.ensures.counted);
      copied = pieces-count g.B.Backend.SHARES slots (map state c.make_parts.new.spare) _ c.in_ok-text.text.now c.args.s c.args.first c.in_ok-count.count _ _ is
          (subst (λ n. n ≤ length (map state c.make_parts.new.spare)) (sym c.in_ok-count.ensures.made.0) (hold-within c.in_ok-text.text.now _ (map state c.make_parts.new.spare) c.in_ok-count.ensures.made.1))
          room (ap (map state) slots_is ∙ put) c.in_ok-count.ensures.copied;
    }

pub invariant_of-self : goal.invariant_of-self
invariant_of-self g c =
    let state = state_of {B = g.row.B.Denot} {S = g.row.B-Sole.Denot} {P = g.row.B-Extent.Denot} in
    let spare_is = with_items_is c.self.inside.spare c.make_parts.new.spare (omega (arith, c.make_parts.auto.spare, ap length c.deref_mut-spare.ensures.value, c.self.inside.spare.ok.0)) in
    ap (map state) spare_is ∙ c.in_err-count.ensures.made.1 ∙ ap (map state) c.deref_mut-spare.ensures.value ∙ c.self.invariant
