use Rattle.std.proofs.Common.{◌∙◌, ◌<◌, length, nat_le, refl, ap, sym, subst, le_refl}
use Rattle.hip_bytes.proofs.Costs.{nothing_copied}
use Rattle.hip_bytes.specs.Handle.{Handle}
use Rattle.hip_bytes.specs.declared.kind.TheConstants.{INLINE_CAPACITY}
use Rattle.hip_bytes.proofs.GatherLemmas.{done_is_no_fault, fault_is, memory_is_not_long, if_fault}
use Rattle.hip_bytes.proofs.JoinLemmas.{not_below, join_refused, holds_whole, holds_owned, counted_sole, counted_within, counted_whole, copied_whole}
use Rattle.hip_bytes.proofs.hip_byt.HipByt.join_piece_slices_metered.Goals as goal

pub returns-in_default : goal.returns-in_default
returns-in_default g c = record { joined = not_below _ _ c.in_default.ensures; kept = tt; counted = nothing_copied _ _; copied = tt; refused_counts_none = λ _. refl }

pub returns-in_err-made : goal.returns-in_err-made
returns-in_err-made g c =
    let r = c.from_residual.result in
    let fault = c.from_residual.ensures.1 in
    let len = c.in-Some.ensures in
    record {
      joined = join_refused r _ fault (subst (λ n. INLINE_CAPACITY < n) len.1 c.if-len-gt-INLINE_CAPACITY.true) len.0;
      kept = if_fault r _ _ fault;
      counted = counted_sole _ _ _ _ _ c.new-apart.ensures c.add.ensures.counted _ _ (sym c.if-not-SHARES.ensures) c.joined_in_owner-made.ensures.counted len.1;
      copied = if_fault r _ _ fault;
      refused_counts_none = λ e. memory_is_not_long (fault_is r _ _ fault e);
    }

pub returns-then-len-gt-INLINE_CAPACITY : goal.returns-then-len-gt-INLINE_CAPACITY
returns-then-len-gt-INLINE_CAPACITY g c =
    let len = c.in-Some.ensures in
    let made = c.in_ok-made.ensures in
    let shown = ap (λ (h : Handle). h.items) c.of.ensures in
    record {
      joined = (holds_owned _ c.in_ok-made.field-0 _ c.of.ensures made.items made.fits (subst (λ n. INLINE_CAPACITY < n) len.1 c.if-len-gt-INLINE_CAPACITY.true), len.0);
      kept = subst g.P.Piece.keeps (sym shown) made.kept;
      counted = counted_sole _ _ _ _ _ c.new-apart.ensures c.add.ensures.counted _ _ (sym c.if-not-SHARES.ensures) made.counted len.1;
      copied = copied_whole _ _ _ _ _ _ _ c.new-apart.ensures made.copied c.add.ensures.exact (le_refl _) (len.1 ∙ sym (ap length (shown ∙ made.items)));
      refused_counts_none = done_is_no_fault;
    }

pub returns-in_err-made-2 : goal.returns-in_err-made-2
returns-in_err-made-2 g c =
    let r = c.from_residual-in_err-made-2.result in
    let fault = c.from_residual-in_err-made-2.ensures.1 in
    let len = c.in-Some.ensures in
    let refused = c.in_err-made-2.ensures in
    record {
      joined = join_refused r _ fault (subst (λ n. INLINE_CAPACITY < n) len.1 refused.memory) len.0;
      kept = if_fault r _ _ fault;
      counted = counted_within _ _ _ _ _ c.new-apart.ensures c.add-2.ensures.counted _ _ refused.counted len.1;
      copied = if_fault r _ _ fault;
      refused_counts_none = λ e. memory_is_not_long (fault_is r _ _ fault e);
    }

pub finish-requires : goal.finish-requires
finish-requires g c =
    let made = c.in_ok-made-2.ensures in
    made.place ∙ ap (λ n. nat_le n INLINE_CAPACITY) (c.in-Some.ensures.1 ∙ sym (ap length made.items))

pub returns-in_err-finish : goal.returns-in_err-finish
returns-in_err-finish g c =
    let r = c.from_residual-in_err-finish.result in
    let fault = c.from_residual-in_err-finish.ensures.1 in
    let len = c.in-Some.ensures in
    let made = c.in_ok-made-2.ensures in
    let refused = c.in_err-finish.ensures in
    let long = ap length made.items in
    record {
      joined = join_refused r _ fault (subst (λ n. INLINE_CAPACITY < n) long refused.memory) len.0;
      kept = if_fault r _ _ fault;
      counted = counted_whole _ _ _ _ _ c.new-apart.ensures c.add-2.ensures.counted _ _ _ _ made.counted len.1 refused.counted long;
      copied = if_fault r _ _ fault;
      refused_counts_none = λ e. memory_is_not_long (fault_is r _ _ fault e);
    }

pub returns : goal.returns
returns g c =
    let len = c.in-Some.ensures in
    let made = c.in_ok-made-2.ensures in
    let whole = c.in_ok-finish.ensures in
    record {
      joined = (holds_whole _ _ _ made.items whole.items whole.kind whole.capacity, len.0);
      kept = subst g.P.Piece.keeps (sym whole.items) made.kept;
      counted = counted_whole _ _ _ _ _ c.new-apart.ensures c.add-2.ensures.counted _ _ _ _ made.counted len.1 whole.counted (ap length made.items);
      copied = copied_whole _ _ _ _ _ _ _ c.new-apart.ensures made.copied c.add-2.ensures.exact whole.counted.never_falls (len.1 ∙ sym (ap length (whole.items ∙ made.items)));
      refused_counts_none = done_is_no_fault;
    }
