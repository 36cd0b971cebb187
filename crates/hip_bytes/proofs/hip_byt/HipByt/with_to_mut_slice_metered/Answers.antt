use Rattle.std.proofs.Common.{◌≡◌, ◌∙◌, ◌<◌, ◌≤◌, length, ap, sym, subst, subst₂, rules, arith}
use Rattle.std.proofs.lemmas.Bool.{false≢true, true_from_ne_false}
use Rattle.std.proofs.lemmas.Result.{IfOk-from_err}
use Rattle.std.specs.Fn.{FnOnceReturnsAtMut}
use Rattle.hip_raw.specs.Meter.{RisesAtLeast, RisesAtMost, times_copied}
use Rattle.hip_bytes.proofs.Costs.{if_err}
use Rattle.hip_bytes.specs.Cost.{lent_count, write_cost, WriteNeedsMemory}
use Rattle.std.specs.List.{refill}
use Rattle.hip_bytes.specs.Handle.{Handle}
use Rattle.hip_bytes.specs.Kinds.{HasCapacity, owned_kind}
use Rattle.hip_bytes.specs.Repr.{handle_of}
use Rattle.hip_bytes.specs.declared.kind.Kind.TheVariants.{Borrowed}
use Rattle.hip_bytes.specs.declared.kind.TheConstants.{INLINE_CAPACITY}
use Rattle.hip_bytes.proofs.Pushes.{owner_handle}
use Rattle.hip_bytes.proofs.Writes.{Apart, Rewrites, counted-exactly, copied_long, copied_short, in_handle, in_owner, may_fail, refill-whole, refused}
use Rattle.hip_bytes.proofs.hip_byt.HipByt.with_to_mut_slice_metered.Goals as goal
use Rattle.hip_bytes.proofs.hip_byt.HipByt.with_to_mut_slice_metered.Goals.{then-is_borrowed+then-len-le-INLINE_CAPACITY, else-is_borrowed+in_ok-repr, in-Borrowed, in-Allocated+in-Err}

pub returns-in-Inline : goal.returns-in-Inline
returns-in-Inline g c =
    let view = ap handle_of (sym c.in-Inline.is) ∙ c.self.view_is in
    let items = ap (λ (h : Handle). h.items) view in
    let size = c.f.auto.arg2 ∙ ap length c.as_mut_slice.ensures.items in
    let whole = refill-whole c.in-Inline.inline c.f.new.arg2 size in
    let does = in_handle g.B.Backend.SHARES c.in-Inline.inline (refill (length c.in-Inline.inline) c.in-Inline.inline c.f.new.arg2) c.args.self.now c.args.meter.now view in
    record {
      ran = record { shown = c.as_mut_slice.result; shows = c.as_mut_slice.ensures.items ∙ items; left = _; met = c.f.ensures; leaves = sym whole };
      len = ap length whole ∙ size ∙ ap length items;
      kind = does.0;
      capacity = does.1;
      kept = does.2;
      memory = tt;
      counted = does.3;
      copied = does.4;
      err = tt;
    }

pub returns-in-Ok : goal.returns-in-Ok
returns-in-Ok g c =
    let wrote = c.in-Ok.ensures in
    let view = ap handle_of (sym c.in-Allocated.is) ∙ c.self.view_is in
    let items = ap (λ (h : Handle). h.items) view in
    let does = in_owner g.B.Backend.SHARES c.in-Allocated.allocated c.with_mut_slice.new.self c.args.self.now c.args.meter.now view wrote.fits wrote.capacity in
    record {
      ran = subst (λ xs. FnOnceReturnsAtMut g.F.FnOnce c.args.f xs c.in-Ok.answer c.with_mut_slice.new.self.items) items wrote.ran;
      len = subst (λ xs. length c.with_mut_slice.new.self.items ≡ length xs) items wrote.len;
      kind = does.0;
      capacity = does.1;
      kept = does.2;
      memory = tt;
      counted = does.3;
      copied = does.4;
      err = tt;
    }

pub returns-in_err-repr : goal.returns-in_err-repr
returns-in_err-repr g c =
    let mid = handle_of c.match-self.self-inside.bare.repr in
    let found : (mid ≡ c.args.self.now) × Apart g.B.Backend.SHARES mid.kind × (c.match-self.f ≡ c.args.f) =
    elim c.match-self.branch [
      | in-Borrowed w ↦ (
        ap (λ i. handle_of i.bare.repr) w.self-inside-is ∙ c.self.view_is,
        subst (Apart g.B.Backend.SHARES) (sym (ap (λ i. (handle_of i.bare.repr).kind) w.self-inside-is ∙ ap (λ r. (handle_of r).kind) w.in-Borrowed.is)) tt,
        w.f-is,
      )
      | in-Allocated+in-Err w ↦ (
        ap (λ i. handle_of i.bare.repr) w.self-inside-is ∙ ap owner_handle w.in-Err.ensures.err ∙ ap handle_of (sym w.in-Allocated.is) ∙ c.self.view_is,
        subst (Apart g.B.Backend.SHARES) (sym (ap (λ i. (handle_of i.bare.repr).kind) w.self-inside-is)) (true_from_ne_false _ (λ sole. false≢true (w.in-Err.ensures.sole sole))),
        w.f-is ∙ w.in-Err.ensures.handed_back,
      )
    ] in
    let same = found.0 in
    let apart = found.1 in
    let long : (mid.kind ≡ Borrowed → INLINE_CAPACITY < length mid.items) = search rules in
    let counted = subst (λ xs. RisesAtMost c.args.meter.now c.written.new.meter (times_copied g.B.Backend.SHARES (length xs))) c.as_slice-else-is_borrowed.ensures.items c.written.ensures.counted in
    let err = c.from_residual.ensures.0 in
    record {
      ran = IfOk-from_err _ _ err;
      len = ap (λ (h : Handle). length h.items) same;
      kind = IfOk-from_err _ (λ _. mid.kind ≡ owned_kind c.args.self.now.kind (length c.args.self.now.items)) err;
      capacity = IfOk-from_err _ (λ _. HasCapacity mid.kind (length mid.items) mid.capacity) err;
      kept = λ sole own. ap (λ (h : Handle). h.capacity) same;
      memory = if_err _ _ (subst (λ h. WriteNeedsMemory g.B.Backend.SHARES h.kind (length h.items)) same (may_fail g.B.Backend.SHARES mid.kind (length mid.items) apart long));
      counted = subst (λ h. RisesAtMost c.args.meter.now c.written.new.meter (write_cost g.B.Backend.SHARES h.kind (length h.items))) same (refused g.B.Backend.SHARES mid.kind (length mid.items) _ _ apart counted);
      copied = IfOk-from_err _ (λ _. RisesAtLeast c.args.meter.now c.written.new.meter (lent_count c.args.self.now.kind (length c.args.self.now.items))) err;
      err = if_err _ _ same;
    }

pub returns : goal.returns
returns g c =
    let mid = handle_of c.match-self.self-inside.bare.repr in
    let found : (mid ≡ c.args.self.now) × Apart g.B.Backend.SHARES mid.kind × (c.match-self.f ≡ c.args.f) =
    elim c.match-self.branch [
      | in-Borrowed w ↦ (
        ap (λ i. handle_of i.bare.repr) w.self-inside-is ∙ c.self.view_is,
        subst (Apart g.B.Backend.SHARES) (sym (ap (λ i. (handle_of i.bare.repr).kind) w.self-inside-is ∙ ap (λ r. (handle_of r).kind) w.in-Borrowed.is)) tt,
        w.f-is,
      )
      | in-Allocated+in-Err w ↦ (
        ap (λ i. handle_of i.bare.repr) w.self-inside-is ∙ ap owner_handle w.in-Err.ensures.err ∙ ap handle_of (sym w.in-Allocated.is) ∙ c.self.view_is,
        subst (Apart g.B.Backend.SHARES) (sym (ap (λ i. (handle_of i.bare.repr).kind) w.self-inside-is)) (true_from_ne_false _ (λ sole. false≢true (w.in-Err.ensures.sole sole))),
        w.f-is ∙ w.in-Err.ensures.handed_back,
      )
    ] in
    let same = found.0 in
    let apart = found.1 in
    let still = found.2 in
    let new = handle_of c.if-is_borrowed.repr.0 in
    elim c.if-is_borrowed.branch [
      | then-is_borrowed+then-len-le-INLINE_CAPACITY w ↦
          let lent : mid.kind ≡ Borrowed = search rules in
          let inline = w.new_unchecked_metered-inline.result in
          let short : length mid.items ≤ INLINE_CAPACITY = omega (arith, w.if-len-le-INLINE_CAPACITY.true, w.len.ensures.len) in
          let copy = w.new_unchecked_metered-inline.ensures.items ∙ w.as_slice.ensures.items in
          let size = w.f-answer.auto.arg2 ∙ ap length w.as_mut_slice-then-len-le-INLINE_CAPACITY.ensures.items in
          let whole = refill-whole inline w.f-answer.new.arg2 size in
          let counted = subst₂ (λ m xs. RisesAtMost c.args.meter.now m (length xs)) (sym w.meter-is) w.as_slice.ensures.items w.new_unchecked_metered-inline.ensures.counted in
          let copied = subst₂ (λ m xs. RisesAtLeast c.args.meter.now m (length xs)) (sym w.meter-is) w.as_slice.ensures.items (counted-exactly _ _ _ w.new_unchecked_metered-inline.ensures.exact) in
          let is = ap (λ p. handle_of p.0) (sym w.repr-is) in
          let does = subst₂ (λ h n. Rewrites g.B.Backend.SHARES h n c.args.meter.now c.if-is_borrowed.meter) same is (copied_short g.B.Backend.SHARES mid (refill (length inline) inline w.f-answer.new.arg2) _ _ lent short counted copied) in
          let ran : FnOnceReturnsAtMut g.F.FnOnce c.match-self.f mid.items w.f-answer.result (refill (length inline) inline w.f-answer.new.arg2) =
          record { shown = w.as_mut_slice-then-len-le-INLINE_CAPACITY.result; shows = w.as_mut_slice-then-len-le-INLINE_CAPACITY.ensures.items ∙ copy; left = _; met = w.f-answer.ensures; leaves = sym whole } in
          record {
            ran = subst₂ (λ f h. FnOnceReturnsAtMut g.F.FnOnce f h.items c.if-is_borrowed.repr.1 new.items) still same
                (subst (λ p. FnOnceReturnsAtMut g.F.FnOnce c.match-self.f mid.items p.1 (handle_of p.0).items) (sym w.repr-is) ran);
            len = ap (λ (h : Handle). length h.items) (sym is) ∙ ap length whole ∙ size ∙ ap length copy ∙ ap (λ (h : Handle). length h.items) same;
            kind = does.0;
            capacity = does.1;
            kept = does.2;
            memory = tt;
            counted = does.3;
            copied = does.4;
            err = tt;
          }
      | else-is_borrowed+in_ok-repr w ↦
          let long : (mid.kind ≡ Borrowed → INLINE_CAPACITY < length mid.items) = search rules in
          let wrote = w.in_ok-repr.ensures in
          let made = handle_of w.in_ok-repr.repr in
          let items = w.as_slice-else-is_borrowed.ensures.items in
          let size = wrote.len ∙ ap length items in
          let counted = subst₂ (λ m xs. RisesAtMost c.args.meter.now m (times_copied g.B.Backend.SHARES (length xs))) (sym w.meter-is) items wrote.counted in
          let copied = subst₂ (λ m xs. RisesAtLeast c.args.meter.now m (length xs)) (sym w.meter-is) items wrote.copied in
          let is = ap (λ p. handle_of p.0) (sym w.repr-is) in
          let does = subst₂ (λ h n. Rewrites g.B.Backend.SHARES h n c.args.meter.now c.if-is_borrowed.meter) same is
          (copied_long g.B.Backend.SHARES mid made _ _ apart long wrote.kind size (subst (λ xs. length xs ≤ made.capacity) items wrote.fits) counted copied) in
          record {
            ran = subst₂ (λ f h. FnOnceReturnsAtMut g.F.FnOnce f h.items c.if-is_borrowed.repr.1 new.items) still same
                (subst₂ (λ p xs. FnOnceReturnsAtMut g.F.FnOnce c.match-self.f xs p.1 (handle_of p.0).items) (sym w.repr-is) items wrote.ran);
            len = ap (λ (h : Handle). length h.items) (sym is) ∙ size ∙ ap (λ (h : Handle). length h.items) same;
            kind = does.0;
            capacity = does.1;
            kept = does.2;
            memory = tt;
            counted = does.3;
            copied = does.4;
            err = tt;
          }
    ]
