-- Lemmas on the parts that a script draws: in the spare slots, and then in their own.
use Rattle.std.proofs.Common.{◌≡◌, ◌∙◌, ℕ, zero, suc, ◌+◌, ◌-◌, ◌<◌, ◌≤◌, inl, inr, Bool, true, false, List, [], ◌∷◌, ◌++◌, length, map, take, drop, replicate, slice_set, slice_range, get_or, Option, Some, None, Result, Ok, Err, IfOk, IfSome, ap, refl, subst, sym, arith, drop-drop, length-take-le}
use Rattle.std.proofs.{Math.ListN.drop_of_length-le, lemmas.List.Edits.sets-eq, lemmas.List.take_more_set, Math.Seq.sets, Math.Seq.drop-append_seam, Math.Seq.take-append_seam, lemmas.Bool.false≢true}
use Rattle.std.proofs.lemmas.List.{map-append, take-map, drop-map, append-nil, append_assoc, length-append, length-map, length-replicate, length-set, length-take}
use borrow.Rule.Slice.PartMut.{put_mid}
use Rattle.hip_bytes.proofs.Costs.{nothing_copied}
use Rattle.hip_bytes.specs.{Cost.CutNeedsMemory, Cost.PartCounts, Handle.Handle, Made.CutAnswers, Meter.RisesAtLeast, Meter.RisesAtMost, declared.kind.Kind.Kind}
use Rattle.hip_cuts.specs.Piece.{IsPartAt, Left, part_cost, parts_cost, LastPiece, LastCosts}
use Rattle.hip_match.proofs.DrawLemmas.{TakesEnd-back}
use Rattle.hip_match.specs.{Draw.draw, Draw.but_last, declared.draw.End.End, declared.draw.End.TheVariants.Front, declared.draw.End.TheVariants.Back}
use Rattle.hipstr.proofs.Counts.{counts-more, counts-none}
use Rattle.hipstr.proofs.Places.{placed}
use Rattle.hipstr.specs.Cut.{PutsParts, SomeNeedsMemory, has_back}
use Rattle.hipstr.specs.Parts.{DrawsPart, HoldParts, part_count, parts_count, put_all}
use Rattle.hipstr.specs.Slot.{SlotState, empty_slot, slot_at}

-- ---- one part
first-of : (r s : ℕ × ℕ) (l m : List (ℕ × ℕ)) → r ∷ l ≡ s ∷ m → r ≡ s
first-of r s l m same = ap (λ (l : List (ℕ × ℕ)). head l) same where
  head : List (ℕ × ℕ) → ℕ × ℕ
  head [] = r
  head (x ∷ l) = x

pub draws-back : {E : Type 0} (shares : Bool) (old new : Left) (result : Option (Result Handle E)) (before after : ℕ)
    → LastPiece old result new → LastCosts shares old result new before after → IfSome result (λ drawn. IfOk drawn (λ part. PartCounts shares old.source part before after))
    → DrawsPart shares Back old result new before after
draws-back shares old new None before after last costs copied = (last.0, costs)
draws-back shares old new (Some part) before after last costs copied =
    let takes = TakesEnd-back old.rest new.rest (Some last.0) last.1 in
    let takes_2 = TakesEnd-back old.rest new.rest (Some costs.0) costs.1 in (
      last.0,
      λ script. (takes script).0,
      last.3,
      subst (λ (range : ℕ × ℕ). RisesAtMost before after (part_cost shares old.source range))
          (first-of costs.0 last.0 (draw new.rest []) (draw new.rest []) (sym (takes_2 []).0 ∙ (takes []).0)) costs.2,
      copied,
    )

-- ---- the parts so far, in the spare slots
tail : List SlotState → List SlotState
tail [] = []
tail (slot ∷ slots) = slots

pub hold-next : (source : Handle) (drawn : List (ℕ × ℕ)) (range : ℕ × ℕ) (part : Handle) (slots : List SlotState)
    → HoldParts source drawn slots → length drawn < length slots → IsPartAt source range part
    → HoldParts source (drawn ++ range ∷ []) (slice_set slots (length drawn) (record { is_text = true; handle = part }))
unfolding tail
hold-next source [] range part [] holds within is = absurd (omega (arith, within))
hold-next source [] range part (slot ∷ slots) holds within is = (refl, is, ap tail holds)
hold-next source (first ∷ drawn) range part [] holds within is = absurd holds
hold-next source (first ∷ drawn) range part (slot ∷ slots) holds within is = (holds.0, holds.1, hold-next source drawn range part slots holds.2 (omega (arith, within)) is)

count-append : (shares : Bool) (source : Handle) (parts more : List SlotState) → parts_count shares source (parts ++ more) ≡ parts_count shares source parts + parts_count shares source more
count-append shares source [] more = omega arith
count-append shares source (part ∷ parts) more = ap (λ n. part_count shares source part + n) (count-append shares source parts more) ∙ omega arith

-- the bytes that were counted by the parts so far, and by one more
count-next : (shares : Bool) (source : Handle) (slots : List SlotState) (count : ℕ) (part : Handle) (before mid after : ℕ) → count < length slots
    → RisesAtLeast before mid (parts_count shares source (take count slots)) → PartCounts shares source part mid after
    → RisesAtLeast before after (parts_count shares source (take (count + 1) (slice_set slots count (record { is_text = true; handle = part }))))
count-next shares source slots count part before mid after within so_far counts =
    let slot : SlotState = record { is_text = true; handle = part } in
    let same : parts_count shares source (take (count + 1) (slice_set slots count slot)) ≡ parts_count shares source (take count slots) + part_count shares source slot =
    ap (parts_count shares source) (take_more_set slots count slot within) ∙ count-append shares source (take count slots) (slot ∷ []) ∙ omega arith in
    rw same (counts-more before mid after _ _ so_far counts)

cost-append : (shares : Bool) (source : Handle) (drawn more : List (ℕ × ℕ)) → parts_cost shares source (drawn ++ more) ≡ parts_cost shares source drawn + parts_cost shares source more
cost-append shares source [] more = omega arith
cost-append shares source (range ∷ drawn) more = ap (λ n. part_cost shares source range + n) (cost-append shares source drawn more) ∙ omega arith

needs-append : (kind : Kind) (drawn : List (ℕ × ℕ)) (range : ℕ × ℕ) (more : List (ℕ × ℕ)) → CutNeedsMemory kind (range.1 - range.0) → SomeNeedsMemory kind (drawn ++ range ∷ more)
needs-append kind [] range more needs = inl needs
needs-append kind (first ∷ drawn) range more needs = inr (needs-append kind drawn range more needs)

-- the ranges that were drawn of all, and those still to come
pub record SoFar (shares : Bool) (source : Handle) (all to_come : List (ℕ × ℕ)) (count : ℕ) (slots : List SlotState) (before after : ℕ) : Type 0 where
  pub drawn : List (ℕ × ℕ)
  pub count_is : count ≡ length drawn
  pub holds : HoldParts source drawn slots
  pub whole : all ≡ drawn ++ to_come
  pub rises : RisesAtMost before after (parts_cost shares source drawn)
  pub counts : RisesAtLeast before after (parts_count shares source (take count slots))

pub so-far-none : (shares : Bool) (source : Handle) (all : List (ℕ × ℕ)) (slots : List SlotState) (before : ℕ)
    → slots ≡ replicate (length slots) empty_slot → SoFar shares source all all 0 slots before before
so-far-none shares source all slots before empty = record { drawn = []; count_is = refl; holds = empty; whole = refl; rises = record { never_falls = omega arith; at_most = omega arith }; counts = counts-none (nothing_copied before 0) }

pub so-far-next : (shares : Bool) (source : Handle) (all to_come later : List (ℕ × ℕ)) (range : ℕ × ℕ) (count : ℕ) (slots : List SlotState) (part : Handle) (before mid after : ℕ)
    → SoFar shares source all to_come count slots before mid → to_come ≡ range ∷ later → count < length slots → IsPartAt source range part → RisesAtMost mid after (part_cost shares source range)
    → PartCounts shares source part mid after → SoFar shares source all later (count + 1) (slice_set slots count (record { is_text = true; handle = part })) before after
so-far-next shares source all to_come later range count slots part before mid after so_far is within is_part rises counts = record {
  drawn = so_far.drawn ++ range ∷ [];
  count_is = omega (arith, so_far.count_is, length-append so_far.drawn (range ∷ []));
  holds = subst (λ n. HoldParts source (so_far.drawn ++ range ∷ []) (slice_set slots n (record { is_text = true; handle = part }))) (sym so_far.count_is)
      (hold-next source so_far.drawn range part slots so_far.holds (omega (arith, so_far.count_is, within)) is_part);
  whole = so_far.whole ∙ ap (λ l. so_far.drawn ++ l) is ∙ sym (append_assoc so_far.drawn (range ∷ []) later);
  rises = record {
    never_falls = omega (arith, so_far.rises.never_falls, rises.never_falls);
    at_most = omega (arith, so_far.rises.at_most, rises.at_most, cost-append shares source so_far.drawn (range ∷ []));
  };
  counts = count-next shares source slots count part before mid after within so_far.counts counts;
}

-- all were drawn
pub record AllDrawn (shares : Bool) (source : Handle) (all : List (ℕ × ℕ)) (count : ℕ) (slots : List SlotState) (before after : ℕ) : Type 0 where
  pub made : (count ≡ length all) × HoldParts source all slots
  pub rises : RisesAtMost before after (parts_cost shares source all)
  pub counts : RisesAtLeast before after (parts_count shares source (take count slots))

pub so-far-all : (shares : Bool) (source : Handle) (all to_come : List (ℕ × ℕ)) (count : ℕ) (slots : List SlotState) (before after : ℕ)
    → SoFar shares source all to_come count slots before after → to_come ≡ [] → AllDrawn shares source all count slots before after
so-far-all shares source all to_come count slots before after so_far none =
    let is : all ≡ so_far.drawn = so_far.whole ∙ ap (λ l. so_far.drawn ++ l) none ∙ append-nil so_far.drawn in
    record {
      made = (so_far.count_is ∙ ap length (sym is), subst (λ (l : List (ℕ × ℕ)). HoldParts source l slots) (sym is) so_far.holds);
      rises = subst (λ (l : List (ℕ × ℕ)). RisesAtMost before after (parts_cost shares source l)) (sym is) so_far.rises;
      counts = so_far.counts;
    }

-- one was refused
pub record OneRefused (shares : Bool) (source : Handle) (all : List (ℕ × ℕ)) (before after : ℕ) : Type 0 where
  pub needs : SomeNeedsMemory source.kind all
  pub rises : RisesAtMost before after (parts_cost shares source all)

part-within : (items : List ℕ) (start end : ℕ) → length (slice_range items start end) ≤ end - start
part-within items start end = omega (arith, length-take (end - start) (drop start items))

pub so-far-refused : (shares : Bool) (source : Handle) (all to_come later : List (ℕ × ℕ)) (range : ℕ × ℕ) (count : ℕ) (slots : List SlotState) (before mid after : ℕ)
    → SoFar shares source all to_come count slots before mid → to_come ≡ range ∷ later → CutNeedsMemory source.kind (length (slice_range source.items range.0 range.1))
    → RisesAtMost mid after (part_cost shares source range) → OneRefused shares source all before after
so-far-refused shares source all to_come later range count slots before mid after so_far is needs rises =
    let whole : all ≡ so_far.drawn ++ range ∷ later = so_far.whole ∙ ap (λ l. so_far.drawn ++ l) is in
    record {
      needs = subst (λ (l : List (ℕ × ℕ)). SomeNeedsMemory source.kind l) (sym whole)
          (needs-append source.kind so_far.drawn range later (needs.0, omega (arith, needs.1, part-within source.items range.0 range.1)));
      rises = subst (λ (l : List (ℕ × ℕ)). RisesAtMost before after (parts_cost shares source l)) (sym whole) (record {
        never_falls = omega (arith, so_far.rises.never_falls, rises.never_falls);
        at_most = omega (arith, so_far.rises.at_most, rises.at_most, cost-append shares source so_far.drawn (range ∷ later));
      });
    }

-- nothing is drawn of nothing
pub draw-none : (script : List End) → draw [] script ≡ []
draw-none [] = refl
draw-none (end ∷ script) = refl

-- ---- the parts in their slots
pub parts-put : (source : Handle) (ranges : List (ℕ × ℕ)) (spare slots : List SlotState) (first : ℕ)
    → HoldParts source ranges spare → first + length ranges ≤ length slots → PutsParts source slots first ranges (put_all slots first (take (length ranges) spare))
parts-put source [] spare slots first holds within = refl
parts-put source (range ∷ ranges) [] slots first holds within = absurd holds
parts-put source (range ∷ ranges) (slot ∷ spare) slots first holds within = (
  slice_set slots first slot,
  placed slots (slice_set slots first slot) first true slot.handle (IsPartAt source range) (omega (arith, within))
      (ap (λ is_text. slice_set slots first (record { is_text = is_text; handle = slot.handle })) holds.0) holds.1,
  parts-put source ranges spare (slice_set slots first slot) (first + 1) holds.2 (omega (arith, within, length-set slots first slot)),
)

pub spare-emptied : (source : Handle) (ranges : List (ℕ × ℕ)) (spare : List SlotState) → HoldParts source ranges spare
    → replicate (length ranges) empty_slot ++ drop (length ranges) spare ≡ replicate (length spare) empty_slot
spare-emptied source [] spare holds = holds
spare-emptied source (range ∷ ranges) [] holds = absurd holds
spare-emptied source (range ∷ ranges) (slot ∷ spare) holds = ap (λ slots. empty_slot ∷ slots) (spare-emptied source ranges spare holds.2)

-- ---- slots that are emptied and put one by one
pub empties-next : (slots : List SlotState) (i : ℕ) (slot : SlotState) → i < length slots → slot ≡ empty_slot → take i slots ≡ replicate i empty_slot
    → take (suc i) (slice_set slots i slot) ≡ replicate (suc i) empty_slot
unfolding tail
empties-next [] i slot within is so_far = absurd (omega (arith, within))
empties-next (s ∷ slots) zero slot within is so_far = ap (λ (x : SlotState). x ∷ []) is
empties-next (s ∷ slots) (suc i) slot within is so_far =
    let rest = empties-next slots i slot (omega (arith, within)) is (ap tail so_far) in
    ap (λ (l : List SlotState). s ∷ l) rest ∙ ap (λ (l : List SlotState). first-slot l ∷ replicate (suc i) empty_slot) so_far where
      first-slot : List SlotState → SlotState
      first-slot [] = s
      first-slot (x ∷ l) = x

pub drop-next : {A : Type 0} (default : A) (parts : List A) (i : ℕ) → i < length parts → drop i parts ≡ get_or parts i default ∷ drop (suc i) parts
drop-next default [] i within = absurd (omega (arith, within))
drop-next default (part ∷ parts) zero within = refl
drop-next default (part ∷ parts) (suc i) within = drop-next default parts i (omega (arith, within))

next-is : (i : ℕ) → suc i ≡ i + 1
next-is i = omega arith

-- like `empties-next`, where a loop counts on
pub empties-on : (slots : List SlotState) (i : ℕ) (slot : SlotState) → i < length slots → slot ≡ empty_slot → take i slots ≡ replicate i empty_slot
    → take (i + 1) (slice_set slots i slot) ≡ replicate (i + 1) empty_slot
empties-on slots i slot within is so_far = subst (λ n. take n (slice_set slots i slot) ≡ replicate n empty_slot) (next-is i) (empties-next slots i slot within is so_far)

-- parts that were swapped into their slots, all at once
put-all-sets : (slots parts : List SlotState) (first : ℕ) → put_all slots first parts ≡ sets slots first parts
put-all-sets slots [] first = refl
put-all-sets slots (part ∷ parts) first = put-all-sets (slice_set slots first part) parts (first + 1) ∙ ap (λ n. sets (slice_set slots first part) n parts) (sym (next-is first))

pub parts-swapped : {X : Type 0} (state : X → SlotState) (slots spare : List X) (first n count : ℕ) → n ≡ count → count ≤ length spare → first + count ≤ length slots
    → map state (put_mid first n slots (take count spare)) ≡ put_all (map state slots) first (take count (map state spare))
parts-swapped state slots spare first n count same made room =
    let parts = take count (map state spare) in
    let long : length parts ≡ count = length-take-le count (map state spare) (omega (arith, made, length-map spare state)) in
    rw (
      map-append state (take first slots) (take count spare ++ drop n (drop first slots)),
      map-append state (take count spare) (drop n (drop first slots)),
      ← take-map state first slots,
      ← take-map state count spare,
      ← drop-map state n (drop first slots),
      ← drop-map state first slots,
      drop-drop n first (map state slots),
      same,
    )
    (sym (put-all-sets (map state slots) parts first ∙ sets-eq parts (map state slots) first (omega (arith, room, long, length-map slots state)) ∙ append_assoc (take first (map state slots)) parts _ ∙ ap (λ k. take first (map state slots) ++ (parts ++ drop (first + k) (map state slots))) long))

-- ---- a walk that goes on by the next end of a script
to-come : (rest later : List (ℕ × ℕ)) (script : List End) (i : ℕ) (default : End) (range : ℕ × ℕ) → i < length script
    → ((more : List End) → draw rest (get_or script i default ∷ more) ≡ range ∷ draw later more) → draw rest (drop i script) ≡ range ∷ draw later (drop (i + 1) script)
to-come rest later script i default range within draws =
    ap (λ (ends : List End). draw rest ends) (drop-next default script i within) ∙ draws (drop (suc i) script) ∙ ap (λ n. range ∷ draw later (drop n script)) (next-is i)

pub goes-on : {E : Type 0} (result : Result Handle E) (shares : Bool) (source at : Handle) (all rest later : List (ℕ × ℕ)) (script : List End) (i : ℕ) (default : End) (slots new : List SlotState) (part : Handle) (before mid after : ℕ)
    → SoFar shares source all (draw rest (drop i script)) i slots before mid → at ≡ source → i < length script → length script ≤ length slots
    → (range : ℕ × ℕ) × ((more : List End) → draw rest (get_or script i default ∷ more) ≡ range ∷ draw later more) × CutAnswers at (slice_range at.items range.0 range.1) result × RisesAtMost mid after (part_cost shares at range)
    × IfOk result (λ part. PartCounts shares at part mid after)
    → result ≡ Ok part → new ≡ slice_set slots i (record { is_text = true; handle = part })
    → SoFar shares source all (draw later (drop (i + 1) script)) (i + 1) new before after
goes-on {E} result shares source at all rest later script i default slots new part before mid after so_far is within room drawn made put =
    subst (λ (l : List SlotState). SoFar shares source all (draw later (drop (i + 1) script)) (i + 1) l before after) (sym put)
    (so-far-next shares source all (draw rest (drop i script)) (draw later (drop (i + 1) script)) drawn.0 i slots part before mid after so_far
    (to-come rest later script i default drawn.0 within drawn.1) (omega (arith, within, room))
    (subst (λ (handle : Handle). IsPartAt handle drawn.0 part) is (subst (λ (result : Result Handle E). CutAnswers at (slice_range at.items drawn.0.0 drawn.0.1) result) made drawn.2))
    (subst (λ (handle : Handle). RisesAtMost mid after (part_cost shares handle drawn.0)) is drawn.3)
    (subst (λ (handle : Handle). PartCounts shares handle part mid after) is (subst (λ (result : Result Handle E). IfOk result (λ part. PartCounts shares at part mid after)) made drawn.4)))

pub is-refused : {E : Type 0} (result : Result Handle E) (error : E) (shares : Bool) (source at : Handle) (all rest later : List (ℕ × ℕ)) (script : List End) (i : ℕ) (default : End) (slots : List SlotState) (before mid after : ℕ)
    → SoFar shares source all (draw rest (drop i script)) i slots before mid → at ≡ source → i < length script
    → (range : ℕ × ℕ) × ((more : List End) → draw rest (get_or script i default ∷ more) ≡ range ∷ draw later more)
    × CutAnswers at (slice_range at.items range.0 range.1) result × RisesAtMost mid after (part_cost shares at range)
    × IfOk result (λ part. PartCounts shares at part mid after)
    → result ≡ Err error → OneRefused shares source all before after
is-refused {E} result error shares source at all rest later script i default slots before mid after so_far is within drawn refused =
    so-far-refused shares source all (draw rest (drop i script)) (draw later (drop (i + 1) script)) drawn.0 i slots before mid after so_far
    (to-come rest later script i default drawn.0 within drawn.1)
    (subst (λ (handle : Handle). CutNeedsMemory handle.kind (length (slice_range handle.items drawn.0.0 drawn.0.1))) is (subst (λ (result : Result Handle E). CutAnswers at (slice_range at.items drawn.0.0 drawn.0.1) result) refused drawn.2))
    (subst (λ (handle : Handle). RisesAtMost mid after (part_cost shares handle drawn.0)) is drawn.3)

pub has-ended : (shares : Bool) (source : Handle) (all rest : List (ℕ × ℕ)) (script : List End) (i : ℕ) (slots : List SlotState) (before mid after : ℕ)
    → SoFar shares source all (draw rest (drop i script)) i slots before mid → rest ≡ [] → after ≡ mid → AllDrawn shares source all i slots before after
has-ended shares source all rest script i slots before mid after so_far none still =
    subst (λ n. AllDrawn shares source all i slots before n) (sym still)
    (so-far-all shares source all (draw rest (drop i script)) i slots before mid so_far (ap (λ (l : List (ℕ × ℕ)). draw l (drop i script)) none ∙ draw-none (drop i script)))

pub script-ended : (shares : Bool) (source : Handle) (all rest : List (ℕ × ℕ)) (script : List End) (i : ℕ) (slots : List SlotState) (before after : ℕ)
    → SoFar shares source all (draw rest (drop i script)) i slots before after → length script ≤ i → AllDrawn shares source all i slots before after
script-ended shares source all rest script i slots before after so_far past =
    so-far-all shares source all (draw rest (drop i script)) i slots before after so_far (ap (λ (ends : List End). draw rest ends) (drop_of_length-le script past))

-- a script without a back draws from the front
pub all-front : (script : List End) (i : ℕ) (default : End) → has_back script ≡ false → i < length script → get_or script i default ≡ Front
all-front [] i default none within = absurd (omega (arith, within))
all-front (Back ∷ script) i default none within = absurd (false≢true (sym none))
all-front (Front ∷ script) zero default none within = refl
all-front (Front ∷ script) (suc i) default none within = all-front script i default none (omega (arith, within))

-- ---- how many there are
pub hold-within : (source : Handle) (ranges : List (ℕ × ℕ)) (slots : List SlotState) → HoldParts source ranges slots → length ranges ≤ length slots
hold-within source [] slots holds = omega arith
hold-within source (range ∷ ranges) [] holds = absurd holds
hold-within source (range ∷ ranges) (slot ∷ slots) holds = omega (arith, hold-within source ranges slots holds.2)

pub draw-within : (ranges : List (ℕ × ℕ)) (script : List End) → length (draw ranges script) ≤ length script
draw-within ranges [] = omega arith
draw-within [] (end ∷ script) = omega arith
draw-within (range ∷ ranges) (Front ∷ script) = omega (arith, draw-within ranges script)
draw-within (range ∷ ranges) (Back ∷ script) = omega (arith, draw-within (but_last range ranges) script)

-- the pieces of the text in a slot are put
pub pieces-put : (slots spare new : List SlotState) (text : Handle) (s first count : ℕ) (ranges : Handle → List (ℕ × ℕ))
    → text ≡ slot_at slots s → count ≡ length (ranges text) → HoldParts text (ranges text) spare → first + count ≤ length slots → new ≡ put_all slots first (take count spare)
    → (count ≡ length (ranges (slot_at slots s))) × PutsParts (slot_at slots s) slots first (ranges (slot_at slots s)) new
pieces-put slots spare new text s first count ranges is counts holds within put =
    let counted = subst (λ (handle : Handle). count ≡ length (ranges handle)) is counts in
    let held = subst (λ (handle : Handle). HoldParts handle (ranges handle) spare) is holds in (
      counted,
      subst (λ (l : List SlotState). PutsParts (slot_at slots s) slots first (ranges (slot_at slots s)) l) (sym (put ∙ ap (λ n. put_all slots first (take n spare)) counted))
          (parts-put (slot_at slots s) (ranges (slot_at slots s)) spare slots first held (omega (arith, counted, within))),
    )

-- the bytes that they count
pub pieces-count : (shares : Bool) (slots spare new : List SlotState) (text : Handle) (s first count : ℕ) (before after : ℕ)
    → text ≡ slot_at slots s → count ≤ length spare → first + count ≤ length slots → new ≡ put_all slots first (take count spare)
    → RisesAtLeast before after (parts_count shares text (take count spare)) → RisesAtLeast before after (parts_count shares (slot_at slots s) (take count (drop first new)))
pieces-count shares slots spare new text s first count before after is within room put counts =
    let parts = take count spare in
    let long : length parts ≡ count = length-take-le count spare within in
    let there : new ≡ take first slots ++ (parts ++ drop (first + length parts) slots) =
    put ∙ put-all-sets slots parts first ∙ sets-eq parts slots first (omega (arith, room, long)) ∙ append_assoc (take first slots) parts (drop (first + length parts) slots) in
    let behind : drop first new ≡ parts ++ drop (first + length parts) slots =
    ap (drop first) there ∙ ap (λ n. drop n (take first slots ++ (parts ++ drop (first + length parts) slots))) (sym (length-take-le first slots (omega (arith, room)))) ∙ drop-append_seam (take first slots) (parts ++ drop (first + length parts) slots) in
    let found : take count (drop first new) ≡ parts = ap (take count) behind ∙ ap (λ n. take n (parts ++ drop (first + length parts) slots)) (sym long) ∙ take-append_seam parts (drop (first + length parts) slots) in
    rw found (subst (λ (handle : Handle). RisesAtLeast before after (parts_count shares handle parts)) is counts)

pub pieces-need : (slots : List SlotState) (text : Handle) (s : ℕ) (ranges : Handle → List (ℕ × ℕ)) → text ≡ slot_at slots s → SomeNeedsMemory text.kind (ranges text)
    → SomeNeedsMemory (slot_at slots s).kind (ranges (slot_at slots s))
pieces-need slots text s ranges is needs = subst (λ (handle : Handle). SomeNeedsMemory handle.kind (ranges handle)) is needs

pub pieces-cost : (shares : Bool) (slots : List SlotState) (text : Handle) (s : ℕ) (ranges : Handle → List (ℕ × ℕ)) (before after : ℕ) → text ≡ slot_at slots s
    → RisesAtMost before after (parts_cost shares text (ranges text)) → RisesAtMost before after (parts_cost shares (slot_at slots s) (ranges (slot_at slots s)))
pieces-cost shares slots text s ranges before after is rises = subst (λ (handle : Handle). RisesAtMost before after (parts_cost shares handle (ranges handle))) is rises

pub empty-length : {X : Type 0} (state : X → SlotState) (slots : List X) (n : ℕ) → map state slots ≡ replicate n empty_slot → length slots ≡ n
empty-length state slots n empty = sym (length-map slots state) ∙ ap length empty ∙ length-replicate n empty_slot
