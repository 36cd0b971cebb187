use Rattle.std.proofs.Common.{◌≡◌, le_of_eq, ◌∙◌, ◌+◌, ◌++◌, length, length-append, ap, subst, sym, refl, arith}
use Rattle.hip_raw.specs.Meter.{RisesAtLeast}
use Rattle.hip_bytes.proofs.GatherLemmas.{counted_more, once_more, at_most_twice, half_of_twice, none_copied, if_fault}
use Rattle.hip_bytes.proofs.Joins.{joined-next, piece_fits, kept-gap, joined_all, length-joined_all}
use Rattle.hip_bytes.proofs.hip_byt.build.joined_in_owner.Goals as goal

pub push_behind_within-requires : goal.push_behind_within-requires
push_behind_within-requires g c =
    let made = c.loop-i.filling.items in
    let gap = c.gap.result.now in
    let piece = c.index-pieces-i in
    let fits = piece_fits g.P.Piece.bytes c.args.sep.now c.args.pieces.now c.loop-i.i piece.result c.as_piece.result.now (length made) (length made + length gap) gap c.loop-i-test.true piece.is c.as_piece.ensures.bytes (ap length c.loop-i.invariant.items) c.gap.ensures refl in
    omega (arith, fits, c.loop-i.invariant.room, c.requires.whole)

pub loop-i-preserved : goal.loop-i-preserved
loop-i-preserved g c =
    let made = c.loop-i.filling.items in
    let gap = c.gap.result.now in
    let piece = c.index-pieces-i in
    let shown = c.as_piece.result.now in
    let more = c.push_behind_within.ensures in
    let together = g.met.P.Piece.together in
    let gap_kept = subst g.P.Piece.keeps (sym c.gap.ensures) (kept-gap g.P.Piece.keeps c.args.sep.now c.loop-i.i g.met.P.Piece.empty c.requires.separator) in
    let grown = ap length more.items ∙ length-append (made ++ gap) shown ∙ ap (λ n. n + length shown) (length-append made gap) in
    record {
      items = joined-next g.P.Piece.bytes c.args.sep.now c.args.pieces.now c.loop-i.i piece.result shown made (made ++ gap) _ gap c.loop-i-test.true piece.is c.as_piece.ensures.bytes c.loop-i.invariant.items c.gap.ensures refl more.items;
      kept = subst g.P.Piece.keeps (sym more.items) (together (made ++ gap) shown (together made gap c.loop-i.invariant.kept gap_kept) c.as_piece.ensures.kept);
      room = more.capacity ∙ c.loop-i.invariant.room;
      counted = record {
        never_falls = omega (arith, more.counted.never_falls, c.loop-i.invariant.counted.never_falls);
        at_most = omega (arith, more.counted.at_most, c.loop-i.invariant.counted.at_most, grown);
      };
      copied = omega (arith, more.copied, c.loop-i.invariant.copied, grown);
    }

pub loop-i-init : goal.loop-i-init
loop-i-init g c =
    let made = c.in_ok-filling.ensures in
    record {
      items = made.items;
      kept = subst g.P.Piece.keeps (sym made.items) g.met.P.Piece.empty;
      room = made.capacity;
      counted = counted_more _ _ _ _ made.counted (once_more _ _);
      copied = none_copied _ _ _ made.items made.counted.never_falls;
    }

pub into_allocated-requires : goal.into_allocated-requires
into_allocated-requires g c = length-joined_all g.P.Piece.bytes c.args.sep.now c.args.pieces.now c.loop-i.i c.loop-i.filling.items c.loop-i-test.false c.loop-i.invariant.items _ c.requires.whole ∙ sym c.loop-i.invariant.room

pub returns : goal.returns
returns g c =
    let made = c.loop-i.filling.items in
    let all = joined_all g.P.Piece.bytes c.args.sep.now c.args.pieces.now c.loop-i.i made c.loop-i-test.false c.loop-i.invariant.items in
    let long : length made ≡ c.args.len = ap length all ∙ sym c.requires.whole in
    let owner = c.into_allocated.ensures in
    record {
      items = owner.items ∙ all;
      kept = subst g.P.Piece.keeps (sym owner.items) c.loop-i.invariant.kept;
      fits = owner.fits;
      counted = counted_more _ _ _ _ c.loop-i.invariant.counted (at_most_twice c.args.len (length made) (le_of_eq long));
      copied = subst (RisesAtLeast c.args.meter.now c.loop-i.meter) long c.loop-i.invariant.copied;
    }

pub returns-in_err-filling : goal.returns-in_err-filling
returns-in_err-filling g c =
    let r = c.from_residual.result in
    let fault = c.from_residual.ensures.1 in
    record {
      items = if_fault r _ _ fault;
      kept = if_fault r _ _ fault;
      fits = if_fault r _ _ fault;
      counted = counted_more _ _ _ _ c.with_len.ensures.counted (half_of_twice _);
      copied = if_fault r _ _ fault;
    }
