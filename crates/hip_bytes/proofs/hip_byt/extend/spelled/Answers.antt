use Rattle.std.proofs.Common.{◌≡◌, ◌∙◌, ◌+◌, ◌≤◌, ◌++◌, ◌∷◌, ◌&&◌, [], nat_le, length, length-append, Err, ap, subst, sym, refl, le_refl, arith}
use Rattle.std.proofs.iter.Next.{Yields-more}
use Rattle.std.proofs.lemmas.Str.{IsUtf8-append, IsUtf8-nil}
use Rattle.std.specs.Char.{encode_utf8}
use Rattle.std.specs.Prelude.{IsUtf8}
use Rattle.hip_bytes.proofs.Extends.{no_gap}
use Rattle.hip_bytes.specs.declared.grow_fault.GrowFault.TheVariants.{TooLong, Memory}
use Rattle.hip_bytes.proofs.Costs.{nothing_copied}
use Rattle.hip_bytes.proofs.GatherLemmas.{done_is_no_fault, none_copied, fits_none, counted_before, longer_than}
use Rattle.hip_bytes.proofs.Joins.{length-joined-snoc, joined-more, fits_before, spilled_once, refused_long}
use Rattle.hip_bytes.specs.declared.kind.TheConstants.{INLINE_CAPACITY}
use Rattle.hip_bytes.proofs.hip_byt.extend.spelled.Goals as goal

pub returns-in-Err-clause-too_long : goal.returns-in-Err-clause-too_long
returns-in-Err-clause-too_long g c = λ e.
    let fault : c.in-Err.fault ≡ TooLong = cc in
    let long = c.in-Err.ensures.too_long (ap Err fault) in
    let length_is = length-joined-snoc encode_utf8 [] c.loop-c.yielded c.in-Some.c c.as_bytes-spelling.result.now c.loop-c.made.items [] (c.as_bytes-spelling.ensures.value ∙ c.encode_utf8.ensures.value) c.loop-c.invariant.items (no_gap _) in
    let steps = Yields-more g.I.IntoIter.Iterator.next_gives c.into_iter-c-iterator.result c.loop-c.yielded c.loop-c.c-iterator c.in-Some.c c.next.new.self c.loop-c.yielded_by c.in-Some.ensures.steps in
    (c.into_iter-c-iterator.result, c.loop-c.yielded ++ c.in-Some.c ∷ [], c.next.new.self, c.into_iter-c-iterator.ensures.into_iter_gives, steps, omega (arith, length_is, long))

pub returns-in-Err-clause-memory : goal.returns-in-Err-clause-memory
returns-in-Err-clause-memory g c = λ e.
    let fault : c.in-Err.fault ≡ Memory = cc in
    let made = c.loop-c.made in
    let length_is = length-joined-snoc encode_utf8 [] c.loop-c.yielded c.in-Some.c c.as_bytes-spelling.result.now made.items [] (c.as_bytes-spelling.ensures.value ∙ c.encode_utf8.ensures.value) c.loop-c.invariant.items (no_gap _) in
    let steps = Yields-more g.I.IntoIter.Iterator.next_gives c.into_iter-c-iterator.result c.loop-c.yielded c.loop-c.c-iterator c.in-Some.c c.next.new.self c.loop-c.yielded_by c.in-Some.ensures.steps in
    let long = refused_long made.in_handle (length made.items) (length made.items + 0 + length c.as_bytes-spelling.result.now) c.loop-c.invariant.place (c.in-Err.ensures.memory (ap Err fault)) (omega arith) in
    (c.into_iter-c-iterator.result, c.loop-c.yielded ++ c.in-Some.c ∷ [], c.next.new.self, c.into_iter-c-iterator.ensures.into_iter_gives, steps, omega (arith, length_is, long))

pub loop-c-preserved : goal.loop-c-preserved
loop-c-preserved g c =
    let more = c.in_default.ensures in
    let length_is = ap length more.items ∙ length-append (c.loop-c.made.items ++ []) c.as_bytes-spelling.result.now ∙ ap (λ n. n + length c.as_bytes-spelling.result.now) (length-append c.loop-c.made.items []) in
    let grown : length c.loop-c.made.items ≤ length c.add_behind.new.self.items = omega arith in
    record {
      items = more.items ∙ joined-more encode_utf8 [] c.loop-c.yielded c.in-Some.c c.as_bytes-spelling.result.now c.loop-c.made.items [] (c.as_bytes-spelling.ensures.value ∙ c.encode_utf8.ensures.value) c.loop-c.invariant.items (no_gap _);
      utf8 = subst IsUtf8 (sym more.items) (IsUtf8-append (c.loop-c.made.items ++ []) c.as_bytes-spelling.result.now (IsUtf8-append c.loop-c.made.items [] c.loop-c.invariant.utf8 IsUtf8-nil) c.as_bytes-spelling.ensures.utf8);
      place = more.place ∙ ap (λ b. b && nat_le (length c.add_behind.new.self.items) INLINE_CAPACITY) c.loop-c.invariant.place ∙ fits_before _ _ INLINE_CAPACITY grown;
      counted = record {
        never_falls = omega (arith, more.counted.never_falls);
        at_most = omega (arith, more.counted.at_most, spilled_once c.loop-c.made.in_handle c.add_behind.new.self.in_handle (nat_le (length c.add_behind.new.self.items) INLINE_CAPACITY) more.place);
      };
      copied = omega (arith, more.copied, c.loop-c.invariant.copied, length_is);
    }

pub loop-c-init : goal.loop-c-init
loop-c-init g c =
    let made = c.new-made.ensures in
    record {
      items = made.items;
      utf8 = subst IsUtf8 (sym made.items) IsUtf8-nil;
      place = made.place ∙ sym (fits_none _ made.items);
      counted = nothing_copied _ _;
      copied = none_copied _ _ _ made.items (le_refl _);
    }

pub returns-in-Err-clause-refused_counts : goal.returns-in-Err-clause-refused_counts
returns-in-Err-clause-refused_counts g c =
    let made = c.loop-c.made in
    let length_is = length-joined-snoc encode_utf8 [] c.loop-c.yielded c.in-Some.c c.as_bytes-spelling.result.now made.items [] (c.as_bytes-spelling.ensures.value ∙ c.encode_utf8.ensures.value) c.loop-c.invariant.items (no_gap _) in
    let steps = Yields-more g.I.IntoIter.Iterator.next_gives c.into_iter-c-iterator.result c.loop-c.yielded c.loop-c.c-iterator c.in-Some.c c.next.new.self c.loop-c.yielded_by c.in-Some.ensures.steps in
    let costs = counted_before _ _ _ made.in_handle _ _ c.loop-c.invariant.counted c.in-Err.ensures.refused_copies_nothing (longer_than _ _ _ _ length_is) in
    (c.into_iter-c-iterator.result, c.loop-c.yielded ++ c.in-Some.c ∷ [], c.next.new.self, c.into_iter-c-iterator.ensures.into_iter_gives, steps, costs)

pub returns : goal.returns
returns g c =
    let made = c.loop-c.invariant in
    record {
      items = (c.into_iter-c-iterator.result, c.loop-c.yielded, c.into_iter-c-iterator.ensures.into_iter_gives, (c.next.new.self, (c.loop-c.c-iterator, c.loop-c.yielded_by, c.in-None.ensures.steps)), made.items);
      utf8 = made.utf8;
      place = made.place;
      too_long = done_is_no_fault;
      memory = done_is_no_fault;
      counted = counted_before _ _ _ c.loop-c.made.in_handle _ _ made.counted refl (le_refl _);
      copied = made.copied;
      refused_counts = tt;
    }
