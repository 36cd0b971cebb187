use Rattle.std.proofs.Common.{◌≡◌, le_refl, ◌∙◌, ◌+◌, ◌++◌, length, length-append, ap, subst, sym, refl, arith}
use Rattle.std.proofs.lemmas.Bool.{le-leb, lt-leb}
use Rattle.hip_raw.specs.Meter.{RisesAtLeast, RisesAtMost}
use Rattle.hip_bytes.proofs.Costs.{if_err, nothing_copied}
use Rattle.hip_bytes.proofs.GatherLemmas.{none_copied, if_fault}
use Rattle.hip_bytes.proofs.Joins.{joined-next, gap_fits, piece_fits, kept-gap, joined_all}
use Rattle.hip_bytes.proofs.hip_byt.build.joined_within.Goals as goal

pub push_behind_within-requires : goal.push_behind_within-requires
push_behind_within-requires g c =
    let made = c.loop-i-2.filling.items in
    let gap = c.gap-in-loop-i-2.result.now in
    let piece = c.index-pieces-i-in-loop-i-2 in
    let fits = piece_fits g.P.Piece.bytes c.args.sep.now c.args.pieces.now c.loop-i-2.i piece.result c.as_piece-in-loop-i-2.result.now (length made) (length made + length gap) gap c.loop-i-2-test.true piece.is c.as_piece-in-loop-i-2.ensures.bytes (ap length c.loop-i-2.invariant.items) c.gap-in-loop-i-2.ensures refl in
    omega (arith, fits, c.loop-i-2.invariant.room, c.requires.whole)

pub loop-i-2-preserved : goal.loop-i-2-preserved
loop-i-2-preserved g c =
    let made = c.loop-i-2.filling.items in
    let gap = c.gap-in-loop-i-2.result.now in
    let piece = c.index-pieces-i-in-loop-i-2 in
    let shown = c.as_piece-in-loop-i-2.result.now in
    let more = c.push_behind_within.ensures in
    let together = g.met.P.Piece.together in
    let gap_kept = subst g.P.Piece.keeps (sym c.gap-in-loop-i-2.ensures) (kept-gap g.P.Piece.keeps c.args.sep.now c.loop-i-2.i g.met.P.Piece.empty c.requires.separator) in
    let grown = ap length more.items ∙ length-append (made ++ gap) shown ∙ ap (λ n. n + length shown) (length-append made gap) in
    record {
      items = joined-next g.P.Piece.bytes c.args.sep.now c.args.pieces.now c.loop-i-2.i piece.result shown made (made ++ gap) _ gap c.loop-i-2-test.true piece.is c.as_piece-in-loop-i-2.ensures.bytes c.loop-i-2.invariant.items c.gap-in-loop-i-2.ensures refl more.items;
      kept = subst g.P.Piece.keeps (sym more.items) (together (made ++ gap) shown (together made gap c.loop-i-2.invariant.kept gap_kept) c.as_piece-in-loop-i-2.ensures.kept);
      room = omega (arith, more.capacity, c.loop-i-2.invariant.room);
      counted = record {
        never_falls = omega (arith, more.counted.never_falls, c.loop-i-2.invariant.counted.never_falls);
        at_most = omega (arith, more.counted.at_most, c.loop-i-2.invariant.counted.at_most, grown);
      };
      copied = omega (arith, more.copied, c.loop-i-2.invariant.copied, grown);
    }

pub push_slice_unchecked_metered-requires : goal.push_slice_unchecked_metered-requires
push_slice_unchecked_metered-requires g c =
    let fits = gap_fits g.P.Piece.bytes c.args.sep.now c.args.pieces.now c.loop-i.i c.index-pieces-i.result (length c.loop-i.inline) c.gap.result.now c.loop-i-test.true (ap length c.loop-i.invariant.items) c.gap.ensures in
    (omega arith, omega (arith, fits, c.requires.whole))

pub push_slice_unchecked_metered-requires-in-loop-i : goal.push_slice_unchecked_metered-requires-in-loop-i
push_slice_unchecked_metered-requires-in-loop-i g c =
    let made = c.loop-i.inline in
    let behind = ap length c.push_slice_unchecked_metered.ensures.items ∙ length-append made c.gap.result.now in
    let fits = piece_fits g.P.Piece.bytes c.args.sep.now c.args.pieces.now c.loop-i.i c.index-pieces-i.result c.as_piece.result.now (length made) (length made + length c.gap.result.now) c.gap.result.now c.loop-i-test.true c.index-pieces-i.is c.as_piece.ensures.bytes (ap length c.loop-i.invariant.items) c.gap.ensures refl in
    omega (arith, fits, behind, c.requires.whole)

pub loop-i-preserved : goal.loop-i-preserved
loop-i-preserved g c =
    let made = c.loop-i.inline in
    let gap = c.gap.result.now in
    let shown = c.as_piece.result.now in
    let behind = c.push_slice_unchecked_metered.ensures in
    let more = c.push_slice_unchecked_metered-in-loop-i.ensures in
    let together = g.met.P.Piece.together in
    let gap_kept = subst g.P.Piece.keeps (sym c.gap.ensures) (kept-gap g.P.Piece.keeps c.args.sep.now c.loop-i.i g.met.P.Piece.empty c.requires.separator) in
    let whole = more.items ∙ ap (λ ys. ys ++ shown) behind.items in
    let grown = ap length whole ∙ length-append (made ++ gap) shown ∙ ap (λ n. n + length shown) (length-append made gap) in
    record {
      items = joined-next g.P.Piece.bytes c.args.sep.now c.args.pieces.now c.loop-i.i c.index-pieces-i.result shown made _ _ gap c.loop-i-test.true c.index-pieces-i.is c.as_piece.ensures.bytes c.loop-i.invariant.items c.gap.ensures behind.items more.items;
      kept = subst g.P.Piece.keeps (sym whole) (together (made ++ gap) shown (together made gap c.loop-i.invariant.kept gap_kept) c.as_piece.ensures.kept);
      counted = record {
        never_falls = omega (arith, more.counted.never_falls, behind.counted.never_falls, c.loop-i.invariant.counted.never_falls);
        at_most = omega (arith, more.counted.at_most, behind.counted.at_most, c.loop-i.invariant.counted.at_most, grown);
      };
      copied = omega (arith, more.exact, behind.exact, c.loop-i.invariant.copied, grown);
    }

pub loop-i-init : goal.loop-i-init
loop-i-init g c =
    let none = c.empty-inline.ensures in
    record { items = none; kept = subst g.P.Piece.keeps (sym none) g.met.P.Piece.empty; counted = nothing_copied _ _; copied = none_copied _ _ _ none (le_refl _) }

pub loop-i-2-init : goal.loop-i-2-init
loop-i-2-init g c =
    let made = c.in_ok-filling.ensures in
    record {
      items = made.items;
      kept = subst g.P.Piece.keeps (sym made.items) g.met.P.Piece.empty;
      room = made.capacity;
      counted = nothing_copied _ _;
      copied = none_copied _ _ _ made.items (le_refl _);
    }

pub returns-then-len-le-INLINE_CAPACITY : goal.returns-then-len-le-INLINE_CAPACITY
returns-then-len-le-INLINE_CAPACITY g c =
    let made = c.loop-i.inline in
    let all = joined_all g.P.Piece.bytes c.args.sep.now c.args.pieces.now c.loop-i.i made c.loop-i-test.false c.loop-i.invariant.items in
    let long : length made ≡ c.args.len = ap length all ∙ sym c.requires.whole in
    let whole = c.in_handle.ensures in
    record {
      items = whole.items ∙ all;
      kept = subst g.P.Piece.keeps (sym whole.items) c.loop-i.invariant.kept;
      place = whole.place ∙ sym (le-leb _ _ c.if-len-le-INLINE_CAPACITY.true);
      memory = tt;
      counted = subst (RisesAtMost c.args.meter.now c.loop-i.meter) long c.loop-i.invariant.counted;
      copied = subst (RisesAtLeast c.args.meter.now c.loop-i.meter) long c.loop-i.invariant.copied;
    }

pub returns-in_err-filling : goal.returns-in_err-filling
returns-in_err-filling g c =
    let r = c.from_residual.result in
    let fault = c.from_residual.ensures.1 in
    record {
      items = if_fault r _ _ fault;
      kept = if_fault r _ _ fault;
      place = if_fault r _ _ fault;
      memory = if_err r _ c.if-len-le-INLINE_CAPACITY.false;
      counted = nothing_copied _ _;
      copied = if_fault r _ _ fault;
    }

pub returns : goal.returns
returns g c =
    let made = c.loop-i-2.filling.items in
    let all = joined_all g.P.Piece.bytes c.args.sep.now c.args.pieces.now c.loop-i-2.i made c.loop-i-2-test.false c.loop-i-2.invariant.items in
    let long : length made ≡ c.args.len = ap length all ∙ sym c.requires.whole in
    let whole = c.in_vector.ensures in
    record {
      items = whole.items ∙ all;
      kept = subst g.P.Piece.keeps (sym whole.items) c.loop-i-2.invariant.kept;
      place = whole.place ∙ sym (lt-leb _ _ c.if-len-le-INLINE_CAPACITY.false);
      memory = tt;
      counted = subst (RisesAtMost c.args.meter.now c.loop-i-2.meter) long c.loop-i-2.invariant.counted;
      copied = subst (RisesAtLeast c.args.meter.now c.loop-i-2.meter) long c.loop-i-2.invariant.copied;
    }
