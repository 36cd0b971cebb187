use Rattle.std.proofs.Common.{◌≡◌, ◌∙◌, ◌+◌, ◌≤◌, ◌++◌, ◌∷◌, ◌&&◌, [], nat_le, length, length-append, Err, ap, subst, sym, refl, le_refl, arith}
use Rattle.std.proofs.iter.Next.{Yields-more}
use Rattle.hip_bytes.specs.declared.grow_fault.GrowFault.TheVariants.{TooLong, Memory}
use Rattle.hip_bytes.proofs.Costs.{nothing_copied}
use Rattle.hip_bytes.proofs.GatherLemmas.{done_is_no_fault, none_copied, fits_none, counted_before, longer_than}
use Rattle.hip_bytes.proofs.Joins.{length-joined-snoc, joined-more, gap-snoc, kept-gap, fits_before, spilled_once, refused_long}
use Rattle.hip_bytes.specs.declared.kind.TheConstants.{INLINE_CAPACITY}
use Rattle.hip_bytes.proofs.hip_byt.join.gathered.Goals as goal

pub returns-in-Err-clause-too_long : goal.returns-in-Err-clause-too_long
returns-in-Err-clause-too_long g c = λ e.
    let fault : c.in-Err.fault ≡ TooLong = cc in
    let long = c.in-Err.ensures.too_long (ap Err fault) in
    let length_is = length-joined-snoc g.P.Piece.bytes c.args.sep.now c.loop-piece.yielded c.in-Some.piece c.as_piece.result.now c.loop-piece.made.items c.loop-piece.gap.now c.as_piece.ensures.bytes c.loop-piece.invariant.items c.loop-piece.invariant.gap in
    let steps = Yields-more g.I.IntoIter.Iterator.next_gives c.into_iter-piece-iterator.result c.loop-piece.yielded c.loop-piece.piece-iterator c.in-Some.piece c.next.new.self c.loop-piece.yielded_by c.in-Some.ensures.steps in
    (c.into_iter-piece-iterator.result, c.loop-piece.yielded ++ c.in-Some.piece ∷ [], c.next.new.self, c.into_iter-piece-iterator.ensures.into_iter_gives, steps, omega (arith, length_is, long))

pub returns-in-Err-clause-memory : goal.returns-in-Err-clause-memory
returns-in-Err-clause-memory g c = λ e.
    let fault : c.in-Err.fault ≡ Memory = cc in
    let made = c.loop-piece.made in
    let length_is = length-joined-snoc g.P.Piece.bytes c.args.sep.now c.loop-piece.yielded c.in-Some.piece c.as_piece.result.now made.items c.loop-piece.gap.now c.as_piece.ensures.bytes c.loop-piece.invariant.items c.loop-piece.invariant.gap in
    let steps = Yields-more g.I.IntoIter.Iterator.next_gives c.into_iter-piece-iterator.result c.loop-piece.yielded c.loop-piece.piece-iterator c.in-Some.piece c.next.new.self c.loop-piece.yielded_by c.in-Some.ensures.steps in
    let long = refused_long made.in_handle (length made.items) (length made.items + length c.loop-piece.gap.now + length c.as_piece.result.now) c.loop-piece.invariant.place (c.in-Err.ensures.memory (ap Err fault)) (omega arith) in
    (c.into_iter-piece-iterator.result, c.loop-piece.yielded ++ c.in-Some.piece ∷ [], c.next.new.self, c.into_iter-piece-iterator.ensures.into_iter_gives, steps, omega (arith, length_is, long))

pub loop-piece-preserved : goal.loop-piece-preserved
loop-piece-preserved g c =
    let more = c.in_default.ensures in
    let length_is = ap length more.items ∙ length-append (c.loop-piece.made.items ++ c.loop-piece.gap.now) c.as_piece.result.now ∙ ap (λ n. n + length c.as_piece.result.now) (length-append c.loop-piece.made.items c.loop-piece.gap.now) in
    let together = g.met.P.Piece.together in
    let gap_kept = subst g.P.Piece.keeps (sym c.loop-piece.invariant.gap) (kept-gap g.P.Piece.keeps c.args.sep.now (length c.loop-piece.yielded) g.met.P.Piece.empty c.requires.separator) in
    let grown : length c.loop-piece.made.items ≤ length c.add_behind.new.self.items = omega arith in
    record {
      items = more.items ∙ joined-more g.P.Piece.bytes c.args.sep.now c.loop-piece.yielded c.in-Some.piece c.as_piece.result.now c.loop-piece.made.items c.loop-piece.gap.now c.as_piece.ensures.bytes c.loop-piece.invariant.items c.loop-piece.invariant.gap;
      kept = subst g.P.Piece.keeps (sym more.items) (together (c.loop-piece.made.items ++ c.loop-piece.gap.now) c.as_piece.result.now (together c.loop-piece.made.items c.loop-piece.gap.now c.loop-piece.invariant.kept gap_kept) c.as_piece.ensures.kept);
      gap = gap-snoc c.args.sep.now c.loop-piece.yielded c.in-Some.piece;
      place = more.place ∙ ap (λ b. b && nat_le (length c.add_behind.new.self.items) INLINE_CAPACITY) c.loop-piece.invariant.place ∙ fits_before _ _ INLINE_CAPACITY grown;
      counted = record {
        never_falls = omega (arith, more.counted.never_falls);
        at_most = omega (arith, more.counted.at_most, spilled_once c.loop-piece.made.in_handle c.add_behind.new.self.in_handle (nat_le (length c.add_behind.new.self.items) INLINE_CAPACITY) more.place);
      };
      copied = omega (arith, more.copied, c.loop-piece.invariant.copied, length_is);
    }

pub loop-piece-init : goal.loop-piece-init
loop-piece-init g c =
    let made = c.new-made.ensures in
    record {
      items = made.items;
      kept = subst g.P.Piece.keeps (sym made.items) g.met.P.Piece.empty;
      gap = refl;
      place = made.place ∙ sym (fits_none _ made.items);
      counted = nothing_copied _ _;
      copied = none_copied _ _ _ made.items (le_refl _);
    }

pub returns-in-Err-clause-refused_counts : goal.returns-in-Err-clause-refused_counts
returns-in-Err-clause-refused_counts g c =
    let made = c.loop-piece.made in
    let length_is = length-joined-snoc g.P.Piece.bytes c.args.sep.now c.loop-piece.yielded c.in-Some.piece c.as_piece.result.now made.items c.loop-piece.gap.now c.as_piece.ensures.bytes c.loop-piece.invariant.items c.loop-piece.invariant.gap in
    let steps = Yields-more g.I.IntoIter.Iterator.next_gives c.into_iter-piece-iterator.result c.loop-piece.yielded c.loop-piece.piece-iterator c.in-Some.piece c.next.new.self c.loop-piece.yielded_by c.in-Some.ensures.steps in
    let costs = counted_before _ _ _ made.in_handle _ _ c.loop-piece.invariant.counted c.in-Err.ensures.refused_copies_nothing (longer_than _ _ _ _ length_is) in
    (c.into_iter-piece-iterator.result, c.loop-piece.yielded ++ c.in-Some.piece ∷ [], c.next.new.self, c.into_iter-piece-iterator.ensures.into_iter_gives, steps, costs)

pub returns : goal.returns
returns g c =
    let made = c.loop-piece.invariant in
    record {
      items = (c.into_iter-piece-iterator.result, c.loop-piece.yielded, c.into_iter-piece-iterator.ensures.into_iter_gives, (c.next.new.self, (c.loop-piece.piece-iterator, c.loop-piece.yielded_by, c.in-None.ensures.steps)), made.items);
      kept = made.kept;
      place = made.place;
      too_long = done_is_no_fault;
      memory = done_is_no_fault;
      counted = counted_before _ _ _ c.loop-piece.made.in_handle _ _ made.counted refl (le_refl _);
      copied = made.copied;
      refused_counts = tt;
    }
